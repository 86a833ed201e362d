-- The bodies of answers part by part, as they are written and read, and which of their numbers fit. They are those of the fields.
use Rattle.std.specs.Prelude.{◌≡◌, ℕ, List, [], ◌++◌, length, All}
use Rattle.std.specs.List.{flat_map}
use Rattle.wire_fields.specs.Numbers.{unsigned, signed, IsUnsigned, IsSigned}
use Rattle.wire_records.specs.declared.reply.Reply.{Reply}
use Rattle.wire_records.specs.declared.reply.Reply.TheVariants.{Done, Asset, Account, Order, Refused}
use Rattle.wire_records.specs.Records.{AreBytes}
use Rattle.wire_records.specs.Refusals.{code_of}
use Rattle.flow_orders.specs.Outcomes.{Fill, Clearing, Skipping}

-- the tag of each plain reply
abbrev pub reply_tag : Reply → ℕ
reply_tag Done = 128
reply_tag (Asset asset) = 129
reply_tag (Account account) = 130
reply_tag (Order order) = 131
reply_tag (Refused refusal) = 132

-- the body of each plain reply
unfoldable pub reply_body : Reply → List ℕ
reply_body Done = []
reply_body (Asset asset) = unsigned 2 asset
reply_body (Account account) = unsigned 4 account
reply_body (Order order) = unsigned 8 order
reply_body (Refused refusal) = unsigned 1 (code_of refusal)

-- the bytes of a fill: the order's number, and its rate
unfoldable pub fill_encoding : Fill → List ℕ
fill_encoding f = unsigned 8 f.order ++ unsigned 4 f.rate

-- the bytes of a batch that cleared: its number, how many prices there are and the prices, how many fills there are and
-- the fills, as many imbalances as prices, and the gap
unfoldable pub clearing_encoding : ℕ → Clearing → List ℕ
clearing_encoding number c =
    unsigned 4 number ++ (unsigned 2 (length c.prices) ++ (flat_map (signed 8) c.prices
    ++ (unsigned 4 (length c.fills) ++ (flat_map fill_encoding c.fills ++ (flat_map (signed 8) c.residuals ++ signed 16 c.gap)))))

-- the bytes of a batch that was skipped: its number, the dual values at the start and at the end, how many moves there are,
-- and the asset of each
unfoldable pub skipping_encoding : ℕ → Skipping → List ℕ
skipping_encoding number s =
    unsigned 4 number ++ (signed 16 s.start_dual ++ (signed 16 s.end_dual ++ (unsigned 4 (length s.trace) ++ s.trace)))

-- a plain reply whose number fits its width
abbrev pub IsReply : Reply → Type 0
IsReply Done = Unit {0}
IsReply (Asset asset) = IsUnsigned 2 asset
IsReply (Account account) = IsUnsigned 4 account
IsReply (Order order) = IsUnsigned 8 order
IsReply (Refused refusal) = Unit {0}

-- a fill whose order and rate fit their widths
abbrev pub IsFill : Fill → Type 0
IsFill f = IsUnsigned 8 f.order × IsUnsigned 4 f.rate

-- a clearing whose numbers fit their widths, with one imbalance for each price
pub record IsClearing (c : Clearing) : Type 0 where
  pub count : IsUnsigned 2 (length c.prices)
  pub prices : All (IsSigned 8) c.prices
  pub fill_count : IsUnsigned 4 (length c.fills)
  pub fills : All IsFill c.fills
  pub residual_each : length c.residuals ≡ length c.prices
  pub residuals : All (IsSigned 8) c.residuals
  pub gap : IsSigned 16 c.gap

-- a skip whose numbers fit their widths
pub record IsSkipping (s : Skipping) : Type 0 where
  pub start_dual : IsSigned 16 s.start_dual
  pub end_dual : IsSigned 16 s.end_dual
  pub steps : IsUnsigned 4 (length s.trace)
  pub trace : AreBytes s.trace
