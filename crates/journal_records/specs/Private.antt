-- What the views of batches read from their bytes.
use Rattle.std.specs.Prelude.{◌≡◌, ◌+◌, ◌*◌, ◌/◌, ℕ, zero, suc, ℤ, List, [], ◌∷◌, length, take, drop, All}
use Rattle.std.specs.List.{flat_map}
use Rattle.std.specs.Int.{cast_signed, w64}
use Rattle.wire_fields.specs.Numbers.{signed, IsUnsigned, IsSigned}
use Rattle.wire_records.specs.declared.reply.Reply.{Reply}
use Rattle.flow_orders.specs.Outcomes.{Fill}
use Rattle.journal_records.specs.Numbered.{ClearedBatch, SkippedBatch}
use Rattle.journal_records.specs.Bodies.{reply_tag, reply_body, fill_encoding, clearing_encoding, skipping_encoding, IsReply, IsFill, IsClearing, IsSkipping}

-- the number whose digits to the base 256 are those of n, followed by these bytes
unfoldable pub digits_on : ℕ → List ℕ → ℕ
digits_on n [] = n
digits_on n (b ∷ bytes) = digits_on (n * 256 + b) bytes

-- the number with a sign that eight bytes encode
abbrev pub sign_in : List ℕ → ℤ
sign_in bytes = cast_signed w64 (digits_on 0 bytes)

-- the fill that twelve bytes encode
abbrev pub fill_in : List ℕ → Fill
fill_in bytes = record { order = digits_on 0 (take 8 bytes); rate = digits_on 0 (drop 8 bytes) }

-- `count` values, one after the other, each of `size` bytes
unfoldable pub values_in : {A : Type 0} → (List ℕ → A) → (size count : ℕ) → List ℕ → List A
values_in read size zero bytes = []
values_in read size (suc count) bytes = read (take size bytes) ∷ values_in read size count (drop size bytes)

-- the numbers with a sign that bytes encode, eight bytes each
abbrev pub signs_in : List ℕ → List ℤ
signs_in bytes = values_in sign_in 8 (length bytes / 8) bytes

-- the fills that bytes encode, twelve bytes each
abbrev pub fills_in : List ℕ → List Fill
fills_in bytes = values_in fill_in 12 (length bytes / 12) bytes

-- these bytes encode these values, one after the other, and each fits
pub record EncodeValues {A : Type 0} (Fits : A → Type 0) (encode : A → List ℕ) (bytes : List ℕ) (values : List A) : Type 0 where
  pub fit : All Fits values
  pub encoded : bytes ≡ flat_map encode values

-- these bytes encode these numbers with a sign
abbrev pub EncodeSigns : List ℕ → List ℤ → Type 0
EncodeSigns bytes numbers = EncodeValues (IsSigned 8) (signed 8) bytes numbers

-- these bytes encode these fills
abbrev pub EncodeFills : List ℕ → List Fill → Type 0
EncodeFills bytes fills = EncodeValues IsFill fill_encoding bytes fills

-- this body encodes this batch that cleared
pub record EncodesCleared (body : List ℕ) (b : ClearedBatch) : Type 0 where
  pub batch : IsUnsigned 4 b.batch
  pub fits : IsClearing b.clearing
  pub encoded : body ≡ clearing_encoding b.batch b.clearing

-- this body encodes no batch that cleared
abbrev pub EncodesNoCleared : List ℕ → Type 0
EncodesNoCleared body = (b : ClearedBatch) → ¬ EncodesCleared body b

-- this body encodes this batch that was skipped
pub record EncodesSkipped (body : List ℕ) (b : SkippedBatch) : Type 0 where
  pub batch : IsUnsigned 4 b.batch
  pub fits : IsSkipping b.skipping
  pub encoded : body ≡ skipping_encoding b.batch b.skipping

-- this body encodes no batch that was skipped
abbrev pub EncodesNoSkipped : List ℕ → Type 0
EncodesNoSkipped body = (b : SkippedBatch) → ¬ EncodesSkipped body b

-- this tag and this body encode this plain reply
pub record EncodesReply (tag : ℕ) (body : List ℕ) (reply : Reply) : Type 0 where
  pub fits : IsReply reply
  pub tag_is : tag ≡ reply_tag reply
  pub encoded : body ≡ reply_body reply

-- this tag and this body encode no plain reply
abbrev pub EncodesNoReply : ℕ → List ℕ → Type 0
EncodesNoReply tag body = (reply : Reply) → ¬ EncodesReply tag body reply
