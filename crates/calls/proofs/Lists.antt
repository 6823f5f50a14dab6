-- Lists of calls, performed one after the other.
use Rattle.std.proofs.Common.{◌≡◌, ℕ, ◌+◌, ◌<◌, List, [], ◌∷◌, ◌++◌, map, length, get_or, take, drop, sym, refl, ap, ◌∙◌, subst, append_assoc}
use Rattle.std.proofs.lemmas.List.{map_push, take_more, take-map, at_drop_more}
use Rattle.model.specs.Geometry.{desktop}
use Rattle.model.specs.State.{State}
use Rattle.model.specs.Mesh.{Meaning}
use Rattle.model.specs.Runs as runs
use Rattle.calls.specs.Values.{answered_by}

module _ {C : Type 0} (meaning : Meaning C) where
  -- answers given so far, before those of the calls that are left
  abbrev pub behind : List runs.Answer → List runs.Answer × State C → List runs.Answer × State C
  behind answers rest = (answers ++ rest.0, rest.1)

  -- one call more at the end
  ran_more : (calls : List runs.Call) (c : runs.Call) (s : State C) → (runs.run desktop meaning (calls ++ c ∷ []) s).1 ≡ (runs.step desktop meaning c (runs.run desktop meaning calls s).1).1
  ran_more [] c s = refl
  ran_more (b ∷ calls) c s = ran_more calls c (runs.step desktop meaning b s).1

  -- a turn of the loop: the call at place i answered a, and the pool is t
  module _ {K : Type 0} (call_of : K → runs.Call) (calls : List K) (i : ℕ) (d : K) (below : i < length calls) (s t : State C) (a : runs.Answer) (is : (a, t) ≡ runs.step desktop meaning (call_of (get_or calls i d)) s) where
    pub performed : (answers : List runs.Answer) (all : List runs.Answer × State C) → behind answers (answered_by meaning (map call_of (drop i calls)) s) ≡ all → behind (answers ++ a ∷ []) (answered_by meaning (map call_of (drop (i + 1) calls)) t) ≡ all
    performed answers all so_far =
        let rest : State C → List runs.Answer × State C = answered_by meaning (map call_of (drop (i + 1) calls)) in
        let joined : runs.Answer × State C → List runs.Answer × State C = λ done. behind answers (done.0 ∷ (rest done.1).0, (rest done.1).1) in
        let grouped : List runs.Answer → List runs.Answer × State C = λ answers. (answers, (rest t).1) in
        ap grouped (append_assoc answers (a ∷ []) (rest t).0) ∙ ap joined is
        ∙ sym (at_drop_more (λ (ks : List K). behind answers (answered_by meaning (map call_of ks) s)) calls i d below) ∙ so_far

    pub ran_front : (start : State C) → s ≡ (runs.run desktop meaning (take i (map call_of calls)) start).1 → t ≡ (runs.run desktop meaning (take (i + 1) (map call_of calls)) start).1
    ran_front start so_far =
        ap (λ (x : runs.Answer × State C). x.1) is ∙ ap (λ x. (runs.step desktop meaning (call_of (get_or calls i d)) x).1) so_far
        ∙ sym (ap (λ cs. (runs.run desktop meaning cs start).1) (take-map call_of (i + 1) calls ∙ ap (map call_of) (take_more calls i d below) ∙ map_push call_of (take i calls) (get_or calls i d) ∙ ap (λ cs. cs ++ call_of (get_or calls i d) ∷ []) (sym (take-map call_of i calls)))
        ∙ ran_more (take i (map call_of calls)) (call_of (get_or calls i d)) start)

-- the labels of calls that were performed are ones that the pool has
known_push : (calls : List runs.Call) (c : runs.Call) → runs.KnownLabels desktop calls → runs.KnownLabel desktop c → runs.KnownLabels desktop (calls ++ c ∷ [])
known_push [] c known here = (here, tt)
known_push (b ∷ calls) c known here = (known.0, known_push calls c known.1 here)

pub known_more : {K : Type 0} (call_of : K → runs.Call) (calls : List K) (i : ℕ) (d : K) → i < length calls → runs.KnownLabels desktop (map call_of (take i calls)) → runs.KnownLabel desktop (call_of (get_or calls i d)) → runs.KnownLabels desktop (map call_of (take (i + 1) calls))
known_more call_of calls i d below known here =
    subst (runs.KnownLabels desktop) (sym (ap (map call_of) (take_more calls i d below) ∙ map_push call_of (take i calls) (get_or calls i d)))
    (known_push (map call_of (take i calls)) (call_of (get_or calls i d)) known here)
