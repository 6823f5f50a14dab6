-- A list of places that is kept as links: each place names the one after it.
use Rattle.std.specs.Prelude.{ℕ, zero, suc, ◌+◌, Bool, true, cond, not, ◌&&◌, List, [], ◌∷◌, nat_lt}
use Rattle.bank.specs.Tables.{put}

-- how many places below n are not blocked
unfoldable pub open_places : ℕ → (ℕ → Bool) → ℕ
open_places zero blocked = 0
open_places (suc n) blocked = cond (blocked n) 0 1 + open_places n blocked

-- The walk along the links from a place on, at most `steps` places of it. It goes on as long as the place that it
-- comes to is below n and not blocked, and blocks each place that it passes, so that no place comes twice.
unfoldable pub walk : ℕ → ℕ → (ℕ → Bool) → (ℕ → ℕ) → ℕ → List ℕ
walk zero n blocked next from = []
walk (suc steps) n blocked next from =
    cond (nat_lt from n && not (blocked from)) (from ∷ walk steps n (put blocked from true) next (next from)) []

-- The whole walk: each step blocks one place more, so that it has no more steps than there are places not blocked.
-- It is a list without repeats of places below n that are not blocked, whatever the links are.
unfoldable pub chain : ℕ → (ℕ → Bool) → (ℕ → ℕ) → ℕ → List ℕ
chain n blocked next from = walk (open_places n blocked) n blocked next from
