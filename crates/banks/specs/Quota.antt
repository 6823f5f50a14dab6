-- What a quota over another bank means.
use Rattle.std.specs.Prelude.{◌≡◌, ℕ, zero, suc, ◌+◌, ◌<◌, Bool, cond, take, nat_lt}
use Rattle.bank.specs.Model.{BankState}
use Rattle.bank.specs.Sound.{Sound}
use Rattle.banks.specs.declared.quota.Quota.{Quota}

-- the bank below with the first entries of its lists: as many as the limit of the opening list, and of the spare list
-- as many as are left of the limit
abbrev pub limited : ℕ → ℕ → BankState → BankState
limited limit left m =
    record {
      size = m.size;
      opening = take limit m.opening;
      spare = take left m.spare;
      out = m.out;
      bytes = m.bytes;
    }

-- one more is left of the limit; the number stops at what a byte holds, which no limit passes
abbrev pub one_more : ℕ → ℕ
one_more left = cond (nat_lt left 255) (left + 1) left

-- how many of the places below n are marked
unfoldable pub marks_below : ℕ → (ℕ → Bool) → ℕ
marks_below zero marks = 0
marks_below (suc n) marks = cond (marks n) 1 0 + marks_below n marks

-- what is left of the limit, which is a byte, is the limit less the frames out
abbrev pub Balanced : ℕ → ℕ → BankState → Type 0
Balanced limit left m = (limit < 256) × (left + marks_below m.size m.out ≡ limit)

-- what a quota means, over what the bank below means
abbrev pub quota_of : {B : Type 0} → (B → BankState) → Quota B → BankState
quota_of model s = limited s.limit s.left (model s.below)

-- A call on a quota leaves its limit; and where the bank below is sound, and what was left of the limit was the limit
-- less the frames out, it is so again.
pub record KeepsQuota {B : Type 0} (model : B → BankState) (s t : Quota B) : Type 0 where
  pub same_limit : t.limit ≡ s.limit
  pub balance : Sound (model s.below) → Balanced s.limit s.left (model s.below) → Balanced t.limit t.left (model t.below)

-- a quota over a sound bank is sound
abbrev pub QuotaSound : Type 0
QuotaSound = (limit left : ℕ) (m : BankState) → Sound m → Sound (limited limit left m)
