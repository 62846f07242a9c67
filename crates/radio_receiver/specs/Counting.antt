-- A receiver around a receiver, which counts the reductions that it receives. That it stands for what its inner one stands for is
-- this project's own.
use Rattle.std.specs.Prelude.{◌≡◌, ◌-◌, ◌^◌, ℕ, List, length, min}
use Rattle.tick_units.specs.declared.marks.Reduction.{Reduction}
use Rattle.radio_receiver.specs.Histories.{History}
use Rattle.radio_receiver.specs.declared.counting.CountingReceiver.{CountingReceiver}

-- how many reductions there are, at most the greatest number of 64 bits
abbrev pub count_of : List Reduction → ℕ
count_of reductions = min (length reductions) (2 ^ 64 - 1)

-- the inner receiver stands for this history, and the count is that of its reductions
pub record HasCounted {T : Type 0} (stands : T → History → Type 0) (c : CountingReceiver T) (h : History) : Type 0 where
  pub inner : stands c.inner h
  pub count : c.count ≡ count_of h.reductions
