-- The limits of each version are within those that all widths are made for.
use Rattle.std.proofs.Common.{◌≤◌}
use Rattle.weight_rows.specs.Rows.{most_entries}
use Rattle.wire_records.specs.declared.version.Version.{Version}
use Rattle.wire_records.specs.Limits.{limits_of}
use Rattle.wire_records.proofs.VersionLimits.{version_assets, version_legs, version_orders, version_batches}
use Rattle.ticker_table.specs.Tickers.{ticker_limit}
use Rattle.flow_orders.specs.Orders.{most_orders}
use Rattle.market_rules.specs.Market.{most_batches}

pub assets_within : (version : Version) → (limits_of version).assets ≤ ticker_limit
assets_within = version_assets

pub legs_within : (version : Version) → (limits_of version).legs ≤ most_entries
legs_within = version_legs

pub orders_within : (version : Version) → (limits_of version).orders ≤ most_orders
unfolding most_orders
orders_within = version_orders

pub batches_within : (version : Version) → (limits_of version).batches ≤ most_batches
batches_within = version_batches
