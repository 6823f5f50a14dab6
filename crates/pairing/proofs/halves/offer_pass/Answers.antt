use Rattle.std.proofs.Common.{get_or, ◌+◌, ◌≡◌, ◌/◌, length, fold, ap, ap₂, ◌∙◌, arith}
use Rattle.std.specs.List.{range_with_len}
use Rattle.pairing.specs.Found.{Found}
use Rattle.pairing.specs.Pairs.{offered}
use Rattle.pairing.specs.Halves.{shifted_turn}
use Rattle.pairing.proofs.Marks.{turn_more}
use Rattle.pairing.proofs.Offers.{length-left, offers, may_offer}
use Rattle.pairing.proofs.halves.offer_pass.Goals as goal

pub offer-requires : goal.offer-requires
offer-requires c =
    let p = may_offer c.requires c.split_at.ensures.front c.split_at.ensures.back (c.loop-j.j + c.args.shift) c.loop-j-test.true c.from.ensures
    (c.from-in-loop-j.ensures ∙ ap (λ k. get_or c.split_at.result.1.now k 0) c.place_on.ensures.place) (ap (λ (f : Found). length f.masks) c.loop-j.invariant) in
    record { within = (p.0, p.1); differ = p.2 }

pub loop-j-preserved : goal.loop-j-preserved
loop-j-preserved c =
    let at = offers c.requires c.split_at.ensures.front c.split_at.ensures.back (c.loop-j.j + c.args.shift) c.loop-j-test.true c.from.ensures
    (c.from-in-loop-j.ensures ∙ ap (λ k. get_or c.split_at.result.1.now k 0) c.place_on.ensures.place) in
    let half = length c.args.found.now.masks / 2 in
    let found = c.loop-j.found in
    turn_more (λ ms ps j. shifted_turn ms c.args.order.now half c.args.shift ps j)
    c.args.found.now.masks c.args.found.now.pairs c.loop-j.j c.loop-j.invariant
    (c.offer.ensures
    ∙ ap₂ (λ a b. record found { pairs = offered found.masks found.pairs a b }) at.0 at.1)

pub returns : goal.returns
returns c =
    let ms = c.args.found.now.masks in
    let half = length-left c.requires c.split_at.ensures.front c.split_at.ensures.back in
    let end : c.loop-j.j ≡ length ms / 2 = omega (arith, half, c.loop-j-test.false, c.loop-j.auto.j-end) in
    c.loop-j.invariant
    ∙ ap
    (λ n. record c.args.found.now {
      pairs = fold (shifted_turn ms c.args.order.now (length ms / 2) c.args.shift) c.args.found.now.pairs (range_with_len 0 n);
    })
    end
