use Rattle.std.proofs.Common.{◌≡◌, ℕ, ◌<◌, ◌≤◌, List, length, get_or, take, drop, rules, ap, ◌∙◌}
use Rattle.std.specs.List.{range_with_len}
use Rattle.std.proofs.lemmas.List.{map-id, take_at}
use Rattle.std.proofs.lemmas.List.FromFn.{fill_by_all, take-map-range_with_len}
use Rattle.std.proofs.lemmas.List.Sorted.{length_permutation}
use Rattle.draws.specs.Shuffle.{shuffled}
use Rattle.pairing.specs.Halves.{shuffled_places}
use Rattle.pairing.proofs.halves.shuffled_places.Goals as goal

-- the front of the places in rising order
front : (places : List ℕ) (n : ℕ) → length places ≡ 64 → ((k : ℕ) → k < 64 → get_or places k 0 ≡ k) → n ≤ 64
    → take n places ≡ range_with_len 0 n
front places n long rising few =
    ap (take n) (fill_by_all (λ k. k) places 64 0 long rising) ∙ take-map-range_with_len (λ k. k) 0 64 n few ∙ map-id (range_with_len 0 n)

pub returns : goal.returns
returns c =
    let rising : (k : ℕ) → k < 64 → get_or c.from_fn.result k 0 ≡ k = λ k h. let s = (c.from_fn.ensures.items.at k 0 h).2 in search rules in
    let places : c.truncate.new.self.items ≡ range_with_len 0 c.args.n =
    c.truncate.ensures.items
    ∙ ap (take c.args.n) c.from-places.ensures.0
    ∙ front c.from_fn.result c.args.n c.from_fn.ensures.items.long rising c.requires in
    let whole : (c.shuffle.new.row, c.shuffle.new.draws.state) ≡ shuffled_places c.args.n c.args.draws.now.state =
    c.shuffle.ensures.exchanges ∙ ap (λ l. shuffled l c.args.draws.now.state) (c.deref_mut.ensures.value ∙ places) in
    let long : length c.shuffle.new.row ≡ length c.truncate.new.self.items =
    length_permutation c.deref_mut.result.now c.shuffle.new.row c.shuffle.ensures.same ∙ ap length c.deref_mut.ensures.value in
    record {
      order = take_at c.shuffle.new.row (drop (length c.shuffle.new.row) c.truncate.new.self.items) (length c.truncate.new.self.items) long
          ∙ ap (λ p. p.0) whole;
      state = ap (λ p. p.1) whole;
    }
