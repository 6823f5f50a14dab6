-- The laws of banks. A bank enters them by its meaning alone, so that they hold of every bank.
use Rattle.std.specs.Prelude.{◌≡◌, ℕ, ◌+◌, ◌≤◌, true, List, length, replicate, Ok, Err}
use Rattle.refusal.specs.declared.Refusal.{Refusal}
use Rattle.bank.specs.Model.{BankState, frame_bytes, most_frames, reset, grant, give_back, read, write}
use Rattle.bank.specs.Sound.{Proper, Sound}

-- a bank is sound after a reset, whatever it was before
abbrev pub ResetSound : Type 0
ResetSound = (m : BankState) → m.size ≤ most_frames → Proper m.size m.opening → Sound (reset m)

-- what each call leaves of a sound bank is sound
pub record Stays (m : BankState) : Type 0 where
  pub after_reset : Sound (reset m)
  pub after_grant : Sound (grant m).1
  pub after_give_back : (f : ℕ) → Sound (give_back f m).1
  pub after_write : (f o : ℕ) (bytes : List ℕ) → Sound (write f o bytes m).1

abbrev pub StaysSound : Type 0
StaysSound = (m : BankState) → Sound m → Stays m

-- a frame that was given back is the next that is granted
abbrev pub Regrants : Type 0
Regrants = (m : BankState) (f : ℕ) → m.out f ≡ true → (grant (give_back f m).1).0 ≡ Ok f

-- a frame that a sound bank grants is out from then on, and reads as zeros
abbrev pub GrantsZeros : Type 0
GrantsZeros =
    (m : BankState) (f o : ℕ) (buffer : List ℕ) →
    Sound m →
    (grant m).0 ≡ Ok f →
    o + length buffer ≤ frame_bytes →
    read f o buffer (grant m).1 ≡ (Ok tt, replicate (length buffer) 0)

-- a refused call changes neither the bank nor the buffer
pub record Keeps (m : BankState) (e : Refusal) : Type 0 where
  pub grant_keeps : (grant m).0 ≡ Err e → (grant m).1 ≡ m
  pub give_back_keeps : (f : ℕ) → (give_back f m).0 ≡ Err e → (give_back f m).1 ≡ m
  pub read_keeps : (f o : ℕ) (buffer : List ℕ) → (read f o buffer m).0 ≡ Err e → (read f o buffer m).1 ≡ buffer
  pub write_keeps : (f o : ℕ) (bytes : List ℕ) → (write f o bytes m).0 ≡ Err e → (write f o bytes m).1 ≡ m

abbrev pub RefusalsKeep : Type 0
RefusalsKeep = (m : BankState) (e : Refusal) → Keeps m e
