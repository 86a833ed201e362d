use Rattle.std.proofs.Common.{[], length, FitsSigned, refl, sym, ◌∙◌, rules}
use Rattle.std.specs.Int.{w128}
use Rattle.std.proofs.lemmas.Int.{to_z-of_z}
use Rattle.std.proofs.lemmas.Option.{none-some, same_Some}
use Rattle.std.proofs.lemmas.List.{append-nil}
use Rattle.std.proofs.lemmas.Bool.{false≢true}
use Rattle.wire_fields.specs.Numbers.{signed, IsUnsigned}
use Rattle.wire_fields.proofs.Encoding.{IsSigned-from_fits}
use Rattle.journal_records.proofs.Reading.{from_residuals, from_fills, from_orders, from_prices, from_assets, cleared_apart, cleared_read}
use Rattle.journal_records.proofs.cleared_view.cleared_in.Goals as goal

pub returns-in_err-batch-clause-none : goal.returns-in_err-batch-clause-none
returns-in_err-batch-clause-none c =
    rw c.from_residual.ensures (λ b s.
    let batch = c.in_err-batch.ensures.again b.batch (from_assets b.clearing) s.batch (c.new-cursor.ensures ∙ cleared_apart c.args.body.now b s) in
    absurd (none-some b.batch batch.0))

pub returns-in_err-take_u16-clause-none : goal.returns-in_err-take_u16-clause-none
returns-in_err-take_u16-clause-none c =
    rw c.from_residual-in_err-take_u16.ensures (λ b s.
    let batch = c.in_ok-batch.ensures.again b.batch (from_assets b.clearing) s.batch (c.new-cursor.ensures ∙ cleared_apart c.args.body.now b s) in
    let assets = c.in_err-take_u16.ensures.again (length b.clearing.prices) (from_prices b.clearing) s.fits.count batch.1 in
    absurd (none-some (length b.clearing.prices) assets.0))

pub returns-in_err-prices-clause-none : goal.returns-in_err-prices-clause-none
returns-in_err-prices-clause-none c =
    rw c.from_residual-in_err-prices.ensures (λ b s.
    let batch = c.in_ok-batch.ensures.again b.batch (from_assets b.clearing) s.batch (c.new-cursor.ensures ∙ cleared_apart c.args.body.now b s) in
    let assets = c.in_ok-take_u16.ensures.again (length b.clearing.prices) (from_prices b.clearing) s.fits.count batch.1 in
    let count = sym (c.from-assets.ensures ∙ same_Some _ _ assets.0) in
    let prices = c.in_err-prices.ensures.again b.clearing.prices (from_orders b.clearing) count s.fits.prices assets.1 in
    absurd prices.0)

pub returns-in_err-orders-clause-none : goal.returns-in_err-orders-clause-none
returns-in_err-orders-clause-none c =
    rw c.from_residual-in_err-orders.ensures (λ b s.
    let batch = c.in_ok-batch.ensures.again b.batch (from_assets b.clearing) s.batch (c.new-cursor.ensures ∙ cleared_apart c.args.body.now b s) in
    let assets = c.in_ok-take_u16.ensures.again (length b.clearing.prices) (from_prices b.clearing) s.fits.count batch.1 in
    let count = sym (c.from-assets.ensures ∙ same_Some _ _ assets.0) in
    let prices = c.in_ok-prices.ensures.again b.clearing.prices (from_orders b.clearing) count s.fits.prices assets.1 in
    let orders = c.in_err-orders.ensures.again (length b.clearing.fills) (from_fills b.clearing) s.fits.fill_count prices.1 in
    absurd (none-some (length b.clearing.fills) orders.0))

pub returns-in_err-fills-clause-none : goal.returns-in_err-fills-clause-none
returns-in_err-fills-clause-none c =
    rw c.from_residual-in_err-fills.ensures (λ b s.
    let batch = c.in_ok-batch.ensures.again b.batch (from_assets b.clearing) s.batch (c.new-cursor.ensures ∙ cleared_apart c.args.body.now b s) in
    let assets = c.in_ok-take_u16.ensures.again (length b.clearing.prices) (from_prices b.clearing) s.fits.count batch.1 in
    let count = sym (c.from-assets.ensures ∙ same_Some _ _ assets.0) in
    let prices = c.in_ok-prices.ensures.again b.clearing.prices (from_orders b.clearing) count s.fits.prices assets.1 in
    let orders = c.in_ok-orders.ensures.again (length b.clearing.fills) (from_fills b.clearing) s.fits.fill_count prices.1 in
    let fills = c.in_err-fills.ensures.again b.clearing.fills (from_residuals b.clearing) (sym (same_Some _ _ orders.0)) s.fits.fills orders.1 in
    absurd fills.0)

pub returns-in_err-residuals-clause-none : goal.returns-in_err-residuals-clause-none
returns-in_err-residuals-clause-none c =
    rw c.from_residual-in_err-residuals.ensures (λ b s.
    let batch = c.in_ok-batch.ensures.again b.batch (from_assets b.clearing) s.batch (c.new-cursor.ensures ∙ cleared_apart c.args.body.now b s) in
    let assets = c.in_ok-take_u16.ensures.again (length b.clearing.prices) (from_prices b.clearing) s.fits.count batch.1 in
    let count = sym (c.from-assets.ensures ∙ same_Some _ _ assets.0) in
    let prices = c.in_ok-prices.ensures.again b.clearing.prices (from_orders b.clearing) count s.fits.prices assets.1 in
    let orders = c.in_ok-orders.ensures.again (length b.clearing.fills) (from_fills b.clearing) s.fits.fill_count prices.1 in
    let fills = c.in_ok-fills.ensures.again b.clearing.fills (from_residuals b.clearing) (sym (same_Some _ _ orders.0)) s.fits.fills orders.1 in
    let residuals = c.in_err-residuals.ensures.again b.clearing.residuals (signed 16 b.clearing.gap) (s.fits.residual_each ∙ count) s.fits.residuals fills.1 in
    absurd residuals.0)

pub returns-in_err-gap-clause-none : goal.returns-in_err-gap-clause-none
returns-in_err-gap-clause-none c =
    rw c.from_residual-in_err-gap.ensures (λ b s.
    let batch = c.in_ok-batch.ensures.again b.batch (from_assets b.clearing) s.batch (c.new-cursor.ensures ∙ cleared_apart c.args.body.now b s) in
    let assets = c.in_ok-take_u16.ensures.again (length b.clearing.prices) (from_prices b.clearing) s.fits.count batch.1 in
    let count = sym (c.from-assets.ensures ∙ same_Some _ _ assets.0) in
    let prices = c.in_ok-prices.ensures.again b.clearing.prices (from_orders b.clearing) count s.fits.prices assets.1 in
    let orders = c.in_ok-orders.ensures.again (length b.clearing.fills) (from_fills b.clearing) s.fits.fill_count prices.1 in
    let fills = c.in_ok-fills.ensures.again b.clearing.fills (from_residuals b.clearing) (sym (same_Some _ _ orders.0)) s.fits.fills orders.1 in
    let residuals = c.in_ok-residuals.ensures.again b.clearing.residuals (signed 16 b.clearing.gap) (s.fits.residual_each ∙ count) s.fits.residuals fills.1 in
    let gap = c.in_err-gap.ensures.again b.clearing.gap [] s.fits.gap (residuals.1 ∙ sym (append-nil (signed 16 b.clearing.gap))) in
    absurd (none-some b.clearing.gap gap.0))

pub returns-then-not-is_empty-clause-none : goal.returns-then-not-is_empty-clause-none
returns-then-not-is_empty-clause-none c = λ b s.
    let batch = c.in_ok-batch.ensures.again b.batch (from_assets b.clearing) s.batch (c.new-cursor.ensures ∙ cleared_apart c.args.body.now b s) in
    let assets = c.in_ok-take_u16.ensures.again (length b.clearing.prices) (from_prices b.clearing) s.fits.count batch.1 in
    let count = sym (c.from-assets.ensures ∙ same_Some _ _ assets.0) in
    let prices = c.in_ok-prices.ensures.again b.clearing.prices (from_orders b.clearing) count s.fits.prices assets.1 in
    let orders = c.in_ok-orders.ensures.again (length b.clearing.fills) (from_fills b.clearing) s.fits.fill_count prices.1 in
    let fills = c.in_ok-fills.ensures.again b.clearing.fills (from_residuals b.clearing) (sym (same_Some _ _ orders.0)) s.fits.fills orders.1 in
    let residuals = c.in_ok-residuals.ensures.again b.clearing.residuals (signed 16 b.clearing.gap) (s.fits.residual_each ∙ count) s.fits.residuals fills.1 in
    let gap = c.in_ok-gap.ensures.again b.clearing.gap [] s.fits.gap (residuals.1 ∙ sym (append-nil (signed 16 b.clearing.gap))) in
    absurd (false≢true (sym c.if-not-is_empty.true ∙ c.is_empty.ensures.1 gap.1))

pub returns-clause-found : goal.returns-clause-found
returns-clause-found c =
    let fits : FitsSigned w128 c.in_ok-gap.gap = search rules in
    let batch_fits : IsUnsigned 4 c.in_ok-batch.batch = search rules in
    let assets_fits : IsUnsigned 2 c.in_ok-take_u16.field-0 = search rules in
    let orders_fits : IsUnsigned 4 c.in_ok-orders.field-0 = search rules in
    rw (to_z-of_z w128 c.in_ok-gap.gap fits)
    (cleared_read c.args.body.now c.in_ok-batch.batch c.in_ok-take_u16.field-0 c.in_ok-orders.field-0 c.in_ok-prices.prices c.in_ok-fills.fills c.in_ok-residuals.residuals c.in_ok-gap.gap
    c.take_u32.new.self c.take_u16.new.self c.take_numbers.new.cursor c.take_u32-2.new.self c.take_fills.new.cursor c.take_numbers-2.new.cursor c.take_i128.new.self
    batch_fits assets_fits orders_fits (IsSigned-from_fits 16 w128 refl c.in_ok-gap.gap fits)
    c.in_ok-prices.ensures.fit c.in_ok-fills.ensures.fit c.in_ok-residuals.ensures.fit
    (c.in_ok-prices.ensures.size ∙ c.from-assets.ensures) c.in_ok-fills.ensures.size (c.in_ok-residuals.ensures.size ∙ c.from-assets.ensures)
    (sym c.new-cursor.ensures ∙ c.in_ok-batch.ensures.found) c.in_ok-take_u16.ensures.found c.in_ok-prices.ensures.found c.in_ok-orders.ensures.found
    c.in_ok-fills.ensures.found c.in_ok-residuals.ensures.found c.in_ok-gap.ensures.found (c.is_empty.ensures.0 c.if-not-is_empty.false))
