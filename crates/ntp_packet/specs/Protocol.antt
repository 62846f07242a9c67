-- The numbers of the protocol that requests and answers share (RFC 5905, section 7.3). That the precision of the host's counter
-- is 2^-20 s is this project's own choice.
use Rattle.std.specs.Prelude.{ℕ, ℤ, negsuc}

abbrev pub latest_version : ℕ
latest_version = 4

-- the mode of a client, and that of a server
abbrev pub client_mode : ℕ
client_mode = 3

abbrev pub server_mode : ℕ
server_mode = 4

-- the precision of the host's counter in log2 seconds, -20
abbrev pub own_precision : ℤ
own_precision = negsuc 19

-- that precision in units of 2^-32 s
abbrev pub own_precision_units : ℕ
own_precision_units = 4096
