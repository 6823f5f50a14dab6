-- What a proposal leaves in its buffer, and the merging of pairs in their order.
use Rattle.std.proofs.Common.{◌≡◌, ℕ, ◌+◌, ◌-◌, ◌/◌, ◌<◌, ◌≤◌, true, cond, leb, List, map, length, get_or, take, drop, None, Ok, Err, Result, sym, ap, ◌∙◌, arith}
use Rattle.std.proofs.lemmas.List.{take_at, at_drop_more}
use Rattle.std.proofs.lemmas.Bool.{and_from, le-leb}
use Rattle.std.specs.Result.{result_unwrap_or}
use Rattle.refusal.specs.declared.Refusal.{Refusal}
use Rattle.refusal.specs.declared.Refusal.TheVariants.{Row as RowRefused}
use Rattle.pairing.specs.declared.pairs.Pair.{Pair}
use Rattle.pairing.specs.Pairs.{accepted, written_over}
use Rattle.model.specs.declared.Meshed.{Meshed}
use Rattle.model.specs.Geometry.{Geometry}
use Rattle.model.specs.State.{State}
use Rattle.model.specs.Mesh.{both, merge, merged, merged_then}
use Rattle.pool.specs.Pairings.{places_of}

-- with so few masks and room for 32 pairs a proposal is answered, and the pairs stand in front
pub proposed : (n : ℕ) (ps buffer after : List Pair) (count : Result ℕ Refusal) → n ≤ 64 → length buffer ≡ 32 → count ≡ cond (accepted n (length buffer)) (Ok (length ps)) (Err RowRefused) → after ≡ cond (accepted n (length buffer)) (written_over ps buffer) buffer → take (result_unwrap_or count 0 - 0) after ≡ ps
proposed n ps buffer after count few room answer written =
    let enough : accepted n (length buffer) ≡ true =
    and_from (leb n 64) (leb (n / 2) (length buffer)) (le-leb n 64 few) (le-leb (n / 2) (length buffer) (omega arith)) in
    rw (answer, written, enough) (ap (λ k. take k (written_over ps buffer)) (let e : length ps - 0 ≡ length ps = omega arith in e) ∙ take_at ps (drop (length ps) buffer) (length ps) (λ i. length ps))

-- a turn of the loop over the pairs
module _ {C : Type 0} (g : Geometry) (frames : List ℕ) (pairs : List Pair) where
  abbrev pub left : ℕ → Meshed → State C → Result Meshed Refusal × State C
  left i done s = merged g frames (map places_of (drop i pairs)) done s

  abbrev pub merge_at : Pair → State C → Result Meshed Refusal × State C
  merge_at p s =
      merge g (get_or frames p.left 0) (get_or frames p.right 0) (get_or s.rows (get_or frames p.left 0) None) (get_or s.rows (get_or frames p.right 0) None) s

  next-pair : (i : ℕ) (d : Pair) (done : Meshed) (s : State C) → i < length pairs → left i done s ≡ merged_then g (merged g frames (map places_of (drop (i + 1) pairs))) done (merge_at (get_or pairs i d) s)
  next-pair i d done s below = at_drop_more (λ (ps : List Pair). merged g frames (map places_of ps) done s) pairs i d below

  -- the two frames of a pair, as the code looks them up
  met : (p : Pair) (f h : ℕ) (s : State C) → f ≡ get_or frames p.left 0 → h ≡ get_or frames p.right 0 → merge g f h (get_or s.rows f None) (get_or s.rows h None) s ≡ merge_at p s
  met p f h s left_is right_is =
      ap (λ x. merge g x h (get_or s.rows x None) (get_or s.rows h None) s) left_is
      ∙ ap (λ y. merge g (get_or frames p.left 0) y (get_or s.rows (get_or frames p.left 0) None) (get_or s.rows y None) s) right_is

  pub merged-next : (i : ℕ) (d : Pair) (f h : ℕ) (done more : Meshed) (s t : State C) → i < length pairs → f ≡ get_or frames (get_or pairs i d).left 0 → h ≡ get_or frames (get_or pairs i d).right 0 → (Ok more, t) ≡ merge g f h (get_or s.rows f None) (get_or s.rows h None) s → left (i + 1) (both done more) t ≡ left i done s
  merged-next i d f h done more s t below left_is right_is is =
      sym (next-pair i d done s below ∙ ap (merged_then g (merged g frames (map places_of (drop (i + 1) pairs))) done) (sym (is ∙ met (get_or pairs i d) f h s left_is right_is)))

  pub merged_stopped : (i : ℕ) (d : Pair) (f h : ℕ) (done : Meshed) (e : Refusal) (s t : State C) → i < length pairs → f ≡ get_or frames (get_or pairs i d).left 0 → h ≡ get_or frames (get_or pairs i d).right 0 → (Err e, t) ≡ merge g f h (get_or s.rows f None) (get_or s.rows h None) s → (Err e, t) ≡ left i done s
  merged_stopped i d f h done e s t below left_is right_is is =
      sym (next-pair i d done s below ∙ ap (merged_then g (merged g frames (map places_of (drop (i + 1) pairs))) done) (sym (is ∙ met (get_or pairs i d) f h s left_is right_is)))
