-- What one pair more and one turn more make of a proposal.
use Rattle.std.proofs.Common.{◌≡◌, ℕ, ◌<◌, ◌≤◌, ◌/◌, take, Bool, true, false, ◌||◌, eqb, List, [], length, replicate, get_or, set, fold, ◌+◌, sym, refl, ap, subst, ◌∙◌, arith}
use Rattle.std.proofs.lemmas.List.{length-set, length-take-le, get_or-replicate}
use Rattle.std.proofs.lemmas.Bool.Decides.{nat_tests}
use Rattle.std.proofs.lemmas.Grind.{common_steps}
use Rattle.std.specs.List.{range_with_len}
use Rattle.pairing.specs.declared.pairs.Pair.{Pair}
use Rattle.pairing.specs.Pairs.{paired, accepted, with_pair, Fair, Lawful}
use Rattle.pairing.specs.Found.{Found, Sound}
use Rattle.pairing.specs.Folds.{folded_counting_more}
use Rattle.pairing.specs.Law.{paired_push, lawful_none, lawful_more, pairs_few, pairs_room}

-- with one pair more, and both its places marked, all marks are as the pairs say
pub marks_more : (marks : List Bool) (ps ps' : List Pair) (i j : ℕ) → i < length marks → j < length marks
    → ((k : ℕ) → k < 64 → get_or marks k false ≡ paired k ps) → ps' ≡ with_pair ps i j
    → (k : ℕ) → k < 64 → get_or (set (set marks i true) j true) k false ≡ paired k ps'
marks_more marks ps ps' i j hi hj are e k h =
    let more : paired k ps' ≡ (paired k ps || (eqb k i || eqb k j)) = ap (paired k) e ∙ paired_push k ps (record { left = i; right = j }) in
    let was = are k h in grind (arith, nat_tests, common_steps)

-- what is accepted has at most 64 masks
pub accepted_few : (n room : ℕ) → accepted n room ≡ true → n ≤ 64
accepted_few n room is = grind (arith, nat_tests, common_steps)

-- no pair is found yet
pub sound_none : (ms : List ℕ) (ps : List Pair) → length ms ≤ 64 → ps ≡ [] → Sound ms ps (replicate 64 false)
sound_none ms ps few none =
    record {
      few = few;
      lawful = subst (Lawful ms) (sym none) (lawful_none ms);
      places = refl;
      marked = λ k h. get_or-replicate 64 k false false h ∙ sym (ap (paired k) none);
    }

-- two free places whose masks join, where f is what a sound proposal shows
module _ {f g : Found} {marks : List Bool} {i j : ℕ} (is : g ≡ f) (sound : Sound g.masks g.pairs marks)
    (fair : Fair f.masks (record { left = i; right = j })) (free : (paired i f.pairs ≡ false) × (paired j f.pairs ≡ false)) where
  lawful_pair : Lawful g.masks (with_pair g.pairs i j)
  lawful_pair =
      let fair' = subst (λ h. Fair h.masks (record { left = i; right = j })) (sym is) fair in
      let free' = subst (λ h. (paired i h.pairs ≡ false) × (paired j h.pairs ≡ false)) (sym is) free in
      lawful_more g.masks g.pairs i j sound.lawful fair' free'.0 free'.1

  -- there is room for their pair
  pub room_more : length g.pairs < 32
  room_more = pairs_room g.masks g.pairs i j lawful_pair sound.few

  -- with the pair, and both its places marked, the proposal is as sound
  pub sound_more : (ps : List Pair) → ps ≡ with_pair g.pairs i j → Sound g.masks ps (set (set marks i true) j true)
  sound_more ps more =
      let long : length f.masks ≡ length g.masks = ap (λ h. length h.masks) (sym is) in
      subst (λ qs. Sound g.masks qs (set (set marks i true) j true)) (sym more)
      (record {
        few = sound.few;
        lawful = lawful_pair;
        places = length-set (set marks i true) j true ∙ length-set marks i true ∙ sound.places;
        marked = marks_more marks g.pairs (with_pair g.pairs i j) i j (omega (arith, long, sound.few, sound.places, fair.left_below))
            (omega (arith, long, sound.few, sound.places, fair.right_below)) sound.marked refl;
      })

-- a buffer for half as many pairs as there are masks has room for all
pub pairs_fit : {f g : Found} {marks : List Bool} → g ≡ f → Sound g.masks g.pairs marks → (n : ℕ) (buffer : List Pair) → n ≡ length g.pairs
    → length f.masks / 2 ≤ length buffer → (n ≤ length buffer) × (length (take n buffer) ≡ n)
pairs_fit {f} {g} is sound n buffer count room =
    let fits : n ≤ length buffer = omega (arith, pairs_few g.masks g.pairs sound.lawful, ap (λ h. length h.masks) is) in
    (fits, length-take-le n buffer fits)

-- one turn more: what the turns so far and this one make of a proposal
pub turn_more : (turn : List ℕ → List Pair → ℕ → List Pair) (ms : List ℕ) (start : List Pair) (k : ℕ) {f g : Found}
    → f ≡ record { masks = ms; pairs = fold (turn ms) start (range_with_len 0 k) } → g ≡ record f { pairs = turn f.masks f.pairs k }
    → g ≡ record { masks = ms; pairs = fold (turn ms) start (range_with_len 0 (k + 1)) }
turn_more turn ms start k before more =
    more
    ∙ ap (λ (h : Found). record h { pairs = turn h.masks h.pairs k }) before
    ∙ ap (λ ps. let h : Found = record { masks = ms; pairs = ps } in h) (sym (folded_counting_more (turn ms) start k))
