-- The state of a pool, and what happens to its spans.
use Rattle.std.specs.Prelude.{ℕ, Bool, true, false, cond, List, replicate, Some, None, Option, ◌==◌}
use Rattle.bank.specs.Model.{BankState, reset}
use Rattle.draws.specs.Draws.{begun}
use Rattle.model.specs.declared.Patch.{Patch}
use Rattle.model.specs.declared.Row.{Row}
use Rattle.model.specs.declared.Span.{Span}
use Rattle.model.specs.declared.Span.TheVariants.{Idle, Home, Alias}
use Rattle.model.specs.declared.Event.{Event}
use Rattle.model.specs.declared.Event.TheVariants.{Open, Merge, Empty}
use Rattle.model.specs.Geometry.{Geometry}

-- All that a pool is. C is the type of a pairing's condition, what it keeps from call to call.
pub record State (C : Type 0) : Type 0 where
  -- the patch of each live label; a label is the name that a player gives a patch
  pub labels : ℕ → Option Patch
  -- the page map: what each span is, with its frame
  pub spans : ℕ → Span
  -- the row of each frame that is out, by the frame's number
  pub rows : List (Option Row)
  -- the state of the draws
  pub draw : ℕ
  -- the pairing's condition
  pub pairing : C
  pub bank : BankState

-- a pool as it is opened: the bank is reset, no label is live, all spans are idle
abbrev pub opened : {C : Type 0} → Geometry → BankState → C → ℕ → State C
opened g bank pairing seed =
    record {
      labels = λ l. None;
      spans = λ h. Idle;
      rows = replicate g.frames None;
      draw = begun seed;
      pairing = pairing;
      bank = reset bank;
    }

-- the same pool over another state of its bank
abbrev pub with_bank : {C : Type 0} → BankState → State C → State C
with_bank m s = record { labels = s.labels; spans = s.spans; rows = s.rows; draw = s.draw; pairing = s.pairing; bank = m }

-- the frame of a span that is not idle
abbrev pub frame_of : Span → Option ℕ
frame_of Idle = None
frame_of (Home f) = Some f
frame_of (Alias f) = Some f

abbrev pub is_idle : Span → Bool
is_idle Idle = true
is_idle (Home f) = false
is_idle (Alias f) = false

-- what a span is after an event
abbrev pub after : Event → Span → Span
after (Open f) Idle = Home f
after (Open f) (Home h) = Home h
after (Open f) (Alias h) = Alias h
after (Merge source destination) Idle = Idle
after (Merge source destination) (Home f) = cond (f == source) (Alias destination) (Home f)
after (Merge source destination) (Alias f) = cond (f == source) (Alias destination) (Alias f)
after (Empty f) Idle = Idle
after (Empty f) (Home h) = cond (h == f) Idle (Home h)
after (Empty f) (Alias h) = cond (h == f) Idle (Alias h)
