use Rattle.std.proofs.Common.{inl, inr, refl, sym, ◌∙◌}
use Rattle.std.proofs.lemmas.Bool.{false≢true}
use Rattle.market_core.proofs.market.Market.row_refusal.Goals as goal

pub returns-then-not-is_row : goal.returns-then-not-is_row
returns-then-not-is_row c = inl (λ lawful. false≢true (sym c.if-not-is_row.true ∙ c.is_row.ensures.1 (rw c.row-row.ensures lawful)), refl)

pub has_assets-requires : goal.has_assets-requires
has_assets-requires c = (c.is_row.ensures.0 c.if-not-is_row.false).0

pub returns-then-not-has_assets : goal.returns-then-not-has_assets
returns-then-not-has_assets c =
    let lawful = rw c.row-row.ensures at c.is_row.ensures.0 c.if-not-is_row.false in
    inr (lawful, inl (λ all. false≢true (sym c.if-not-has_assets.true ∙ c.has_assets.ensures.1 (rw c.row-row.ensures all)), refl))

pub returns-then-is_full : goal.returns-then-is_full
returns-then-is_full c =
    let lawful = rw c.row-row.ensures at c.is_row.ensures.0 c.if-not-is_row.false in
    let assets = rw c.row-row.ensures at c.has_assets.ensures.0 c.if-not-has_assets.false in
    inr (lawful, inr (assets, inl (c.is_full.ensures.0 c.if-is_full.true, refl)))

pub is_affordable-requires-clause-row : goal.is_affordable-requires-clause-row
is_affordable-requires-clause-row c = rw c.row-row.ensures at (c.is_row.ensures.0 c.if-not-is_row.false).0

pub is_affordable-requires-clause-assets : goal.is_affordable-requires-clause-assets
is_affordable-requires-clause-assets c = rw c.row-row.ensures at c.has_assets.ensures.0 c.if-not-has_assets.false

pub returns-then-not-is_affordable : goal.returns-then-not-is_affordable
returns-then-not-is_affordable c =
    let lawful = rw c.row-row.ensures at c.is_row.ensures.0 c.if-not-is_row.false in
    let assets = rw c.row-row.ensures at c.has_assets.ensures.0 c.if-not-has_assets.false in
    inr (lawful, inr (assets, inr (λ many. false≢true (sym c.if-is_full.false ∙ c.is_full.ensures.1 many), inl (λ free. false≢true (sym c.if-not-is_affordable.true ∙ c.is_affordable.ensures.1 free), refl))))

pub returns : goal.returns
returns c =
    let lawful = rw c.row-row.ensures at c.is_row.ensures.0 c.if-not-is_row.false in
    let assets = rw c.row-row.ensures at c.has_assets.ensures.0 c.if-not-has_assets.false in
    inr (lawful, inr (assets, inr (λ many. false≢true (sym c.if-is_full.false ∙ c.is_full.ensures.1 many), inr (c.is_affordable.ensures.0 c.if-not-is_affordable.false, refl))))
