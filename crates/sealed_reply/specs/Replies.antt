-- The reply to a datagram. Its header is that of the answer (RFC 5905, appendix A.5.3.1, `fast_xmit`) or of a kiss-o'-death
-- packet (section 7.4), by the client's code. Where the datagram is authentic, the key's identifier and the digest follow it
-- (section 7.3).
use Rattle.std.specs.Prelude.{ℕ, List, Result}
use Rattle.std.specs.Result.{result_map_both}
use Rattle.clock_page.specs.Page.{PageFields}
use Rattle.packet_auth.specs.Digests.{sealed_like}
use Rattle.packet_auth.specs.Keys.{KeyFields}
use Rattle.reply_core.specs.Reply.{answer_for}
use Rattle.reply_core.specs.declared.code.Code.{Code}
use Rattle.reply_core.specs.declared.dropped.Dropped.{Dropped}

-- the bytes of the reply, sealed as the datagram is, or why there is none
abbrev pub reply_to : List KeyFields → Code → PageFields → List ℕ → ℕ → ℕ → Result (List ℕ) Dropped
reply_to keys code p datagram arrived sent = result_map_both (sealed_like keys datagram) (λ why. why) (answer_for code p datagram arrived sent)
