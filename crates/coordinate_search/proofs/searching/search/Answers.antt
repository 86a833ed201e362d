use Rattle.std.proofs.Common.{◌≡◌, [], ◌∷◌, Option, ap, arith}
use Rattle.std.specs.Prelude.{option_map}
use Rattle.std.proofs.lemmas.List.{length-append}
use Rattle.coordinate_search.proofs.Lowering.{search_lowers}
use Rattle.coordinate_search.proofs.InTurn.{next_so_far, legal_so_far, found_unsettled, near_so_far, one_more_moved, ends_settled, ends_spent}
use Rattle.coordinate_search.specs.declared.searching.Unsettled.{Unsettled}
use Rattle.coordinate_search.proofs.searching.search.Goals as goal

-- the asset that was found
asset_of : {found other : Option Unsettled} → found ≡ other → option_map (λ (u : Unsettled). u.asset) found ≡ option_map (λ (u : Unsettled). u.asset) other
asset_of same = ap (option_map (λ (u : Unsettled). u.asset)) same

pub next_unsettled-requires : goal.next_unsettled-requires
next_unsettled-requires c = record { next = next_so_far _ _ _ _ _ _ _ c.loop-made.invariant.0 }

pub returns-in-None-clause-legal : goal.returns-in-None-clause-legal
returns-in-None-clause-legal c = legal_so_far _ _ _ _ _ _ _ c.loop-made.invariant.0

pub returns-in-None-clause-found : goal.returns-in-None-clause-found
returns-in-None-clause-found c =
    ends_settled _ _ _ _ _ _ _ c.loop-made.invariant.0 _ c.next_unsettled.ensures.first _ (asset_of c.in-None.is) (omega (arith, c.loop-made.invariant.1, c.loop-made-test.true))

pub make_move-requires-clause-unsettled : goal.make_move-requires-clause-unsettled
make_move-requires-clause-unsettled c = found_unsettled _ _ _ _ _ _ _ c.loop-made.invariant.0 _ c.next_unsettled.ensures.first _ (asset_of c.in-Some.is)

pub make_move-requires-clause-near : goal.make_move-requires-clause-near
make_move-requires-clause-near c =
    near_so_far _ _ _ _ _ _ _ c.loop-made.invariant.0 _ c.requires.start (omega (arith, c.loop-made.invariant.1, c.loop-made-test.true, c.requires.most)) c.in-Some.ensures.there

pub loop-made-preserved : goal.loop-made-preserved
loop-made-preserved c =
    rw c.push_reserved.ensures.items (
      one_more_moved _ _ _ _ _ _ _ c.loop-made.invariant.0 _ c.next_unsettled.ensures.first _ _ _ (asset_of c.in-Some.is) c.make_move.ensures.orders c.make_move.ensures.prices,
      omega (arith, length-append c.loop-made.trace.items (c.in-Some.found.asset ∷ []), c.loop-made.invariant.1),
    )

pub next_unsettled-requires-2 : goal.next_unsettled-requires-2
next_unsettled-requires-2 c = record { next = next_so_far _ _ _ _ _ _ _ c.loop-made.invariant.0 }

pub returns-in-None-next_unsettled-clause-legal : goal.returns-in-None-next_unsettled-clause-legal
returns-in-None-next_unsettled-clause-legal c = legal_so_far _ _ _ _ _ _ _ c.loop-made.invariant.0

pub returns-in-None-next_unsettled-clause-found : goal.returns-in-None-next_unsettled-clause-found
returns-in-None-next_unsettled-clause-found c =
    ends_settled _ _ _ _ _ _ _ c.loop-made.invariant.0 _ c.next_unsettled-2.ensures.first _ (asset_of c.in-None-next_unsettled.is)
    (omega (arith, c.loop-made.invariant.1, c.loop-made.auto._made-end))

pub returns-in-Some-next_unsettled-clause-legal : goal.returns-in-Some-next_unsettled-clause-legal
returns-in-Some-next_unsettled-clause-legal c = legal_so_far _ _ _ _ _ _ _ c.loop-made.invariant.0

pub returns-in-Some-next_unsettled-clause-found : goal.returns-in-Some-next_unsettled-clause-found
returns-in-Some-next_unsettled-clause-found c =
    ends_spent _ _ _ _ _ _ _ c.loop-made.invariant.0 _ c.next_unsettled-2.ensures.first _ _ (asset_of c.in-Some-next_unsettled.is)
    (omega (arith, c.loop-made.invariant.1, c.loop-made.auto._made-end, c.loop-made-test.false))

pub returns-in-None-clause-lowers : goal.returns-in-None-clause-lowers
returns-in-None-clause-lowers c = search_lowers _ c.requires.some_parts _ _ _ _ _ _ c.loop-made.invariant.0 c.next_unsettled.ensures.each

pub returns-in-None-next_unsettled-clause-lowers : goal.returns-in-None-next_unsettled-clause-lowers
returns-in-None-next_unsettled-clause-lowers c = search_lowers _ c.requires.some_parts _ _ _ _ _ _ c.loop-made.invariant.0 c.next_unsettled-2.ensures.each

pub returns-in-Some-next_unsettled-clause-lowers : goal.returns-in-Some-next_unsettled-clause-lowers
returns-in-Some-next_unsettled-clause-lowers c = search_lowers _ c.requires.some_parts _ _ _ _ _ _ c.loop-made.invariant.0 c.next_unsettled-2.ensures.each
