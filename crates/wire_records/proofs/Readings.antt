-- A record of bytes has exactly one reading.
use Rattle.std.proofs.Common.{◌≡◌, ◌≢◌, ◌≤◌, ◌<◌, ◌↔◌, ℕ, List, ◌++◌, inl, inr, ◌⊎◌, length, length-append, refl, sym, ap, ◌∙◌, arith, None, Some}
use Rattle.std.specs.Prelude.{Result, Ok, Err}
use Rattle.std.proofs.lemmas.Bool.{cases_lt, cases_eq}
use Rattle.std.proofs.lemmas.List.{nil_from_length}
use Rattle.wire_fields.specs.Numbers.{unsigned, IsUnsigned}
use Rattle.wire_fields.proofs.Encoding.{length-unsigned}
use Rattle.wire_records.specs.declared.command.BodyFault.{BodyFault}
use Rattle.wire_records.specs.declared.command.BodyFault.TheVariants.{UnknownTag, BadBody}
use Rattle.wire_records.specs.Records.{Record, AreBytes, IsRecord, most_body}
use Rattle.wire_records.specs.Commands.{Request, Command, AddAsset, OpenAccount, Deposit, Withdraw, Place, CancelOrder, RunBatch, SetCredit}
use Rattle.wire_records.specs.CommandRecords.{tag_of, body_of, record_of, IsCommand, EncodesNone, HasShortRow, Encodes, IsTag, IsRead}
use Rattle.wire_records.specs.Bodies.{request_encoding, body_encoding, FitsCommand}
use Rattle.wire_records.proofs.FieldForms.{body_is_plain, command_fits, command_from}
use Rattle.wire_records.specs.declared.version.Version.{Version}
use Rattle.wire_records.specs.declared.version.Version.TheVariants.{One}
use Rattle.wire_records.specs.Versions.{most_tag, IsTagOf, IsOfVersion, IsReadAs}
use Rattle.wire_records.specs.Private.{EncodesRequest, EncodesUntil}
use Rattle.wire_records.proofs.Fields.{whole_number, prefix_number}
use Rattle.wire_records.proofs.Requests.{request_size}
use Rattle.wire_records.proofs.RequestsTold.{request_told, until_told}
use Rattle.wire_records.proofs.Bodies.{size_of, same_record, tag_is, encodes_none, encodes_none-from_request, encodes_none-from_until, command_unique}

-- the tag of each command is 1 to 12
tag_of-range : (c : Command) → IsTag (tag_of c)
tag_of-range (AddAsset ticker) = (omega arith, omega arith)
tag_of-range (Deposit account None ticks) = (omega arith, omega arith)
tag_of-range (Withdraw account None ticks) = (omega arith, omega arith)
tag_of-range (Place None request) = (omega arith, omega arith)
tag_of-range (SetCredit account None ticks) = (omega arith, omega arith)
tag_of-range command = (omega arith, omega arith)

-- the record of a command is read as no fault
no_fault : (c : Command) (r : Record) (why : BodyFault) → Encodes c r → IsRead r (Err why) → ⊥
no_fault c r UnknownTag s unknown =
    let tag = tag_is c r s in
    let range = tag_of-range c in
    unknown (omega (arith, tag, range.0), omega (arith, tag, range.1))
no_fault c r BadBody s bad = bad.1 c s

-- a record is read as one fault
fault_unique : (e f : BodyFault) (r : Record) → IsRead r (Err e) → IsRead r (Err f) → e ≡ f
fault_unique UnknownTag UnknownTag r p q = refl
fault_unique UnknownTag BadBody r p q = absurd (p q.0)
fault_unique BadBody UnknownTag r p q = absurd (q p.0)
fault_unique BadBody BadBody r p q = refl

-- the record of a command is read as that command, whatever the version
pub command_seen : (c : Command) (r : Record) (read : Result Command BodyFault) → Encodes c r → IsRead r read → read ≡ Ok c
command_seen c r (Ok d) s found = ap Ok (command_unique d c r found s)
command_seen c r (Err why) s found = absurd (no_fault c r why s found)

-- a record has at most one reading, whatever the version
pub seen_unique : (r : Record) (a b : Result Command BodyFault) → IsRead r a → IsRead r b → a ≡ b
seen_unique r (Ok c) b p q = sym (command_seen c r b p q)
seen_unique r a (Ok c) p q = command_seen c r a q p
seen_unique r (Err e) (Err f) p q = ap Err (fault_unique e f r p q)

-- a version's command is read as no fault in it
no_fault_in : (version : Version) (c : Command) (r : Record) (why : BodyFault) → IsTagOf version r.tag → Encodes c r → IsReadAs version r (Err why) → ⊥
no_fault_in version c r UnknownTag tag s unknown = unknown tag
no_fault_in version c r BadBody tag s bad = bad.1 c s

-- a record is read as one fault in a version
fault_unique_in : (version : Version) (e f : BodyFault) (r : Record) → IsReadAs version r (Err e) → IsReadAs version r (Err f) → e ≡ f
fault_unique_in version UnknownTag UnknownTag r p q = refl
fault_unique_in version UnknownTag BadBody r p q = absurd (p q.0)
fault_unique_in version BadBody UnknownTag r p q = absurd (q p.0)
fault_unique_in version BadBody BadBody r p q = refl

-- the record of a version's command is read as that command in it
read_here : (version : Version) (c : Command) (r : Record) (read : Result Command BodyFault) → IsTagOf version r.tag → Encodes c r → IsReadAs version r read → read ≡ Ok c
read_here version c r (Ok d) tag s found = ap Ok (command_unique d c r found.1 s)
read_here version c r (Err why) tag s found = absurd (no_fault_in version c r why tag s found)

pub command_read : (version : Version) (c : Command) (r : Record) (read : Result Command BodyFault) → IsOfVersion version c → Encodes c r → IsReadAs version r read → read ≡ Ok c
command_read version c r read of s found = read_here version c r read (rw (tag_is c r s) of) s found

-- a record has at most one reading in a version
pub reading_unique : (version : Version) (r : Record) (a b : Result Command BodyFault) → IsReadAs version r a → IsReadAs version r b → a ≡ b
reading_unique version r (Ok c) b p q = sym (read_here version c r b p.0 p.1 q)
reading_unique version r a (Ok c) p q = read_here version c r a q.0 q.1 p
reading_unique version r (Err e) (Err f) p q = ap Err (fault_unique_in version e f r p q)

-- a command that is read in a version is a command of that version
pub read_own : (version : Version) (r : Record) (c : Command) → IsReadAs version r (Ok c) → IsOfVersion version c
read_own version r c read = rw (← tag_is c r read.1) read.0

-- 12 bytes are a number of four and one of eight
twelve : (bytes : List ℕ) → length bytes ≡ 12 → AreBytes bytes → (a t : ℕ) × (IsUnsigned 4 a × IsUnsigned 8 t) × (bytes ≡ unsigned 4 a ++ unsigned 8 t)
twelve bytes len small =
    let a = prefix_number 4 8 bytes len small in
    let t = whole_number 8 a.1 a.3 a.4 in
    (a.0, t.0, (a.2, t.1), a.5 ∙ ap (λ xs. unsigned 4 a.0 ++ xs) t.2)

-- 14 bytes are a number of four, one of two and one of eight
fourteen : (bytes : List ℕ) → length bytes ≡ 14 → AreBytes bytes → (a i t : ℕ) × (IsUnsigned 4 a × IsUnsigned 2 i × IsUnsigned 8 t) × (bytes ≡ unsigned 4 a ++ (unsigned 2 i ++ unsigned 8 t))
fourteen bytes len small =
    let a = prefix_number 4 10 bytes len small in
    let i = prefix_number 2 8 a.1 a.3 a.4 in
    let t = whole_number 8 i.1 i.3 i.4 in
    (a.0, i.0, t.0, (a.2, i.2, t.1), a.5 ∙ ap (λ xs. unsigned 4 a.0 ++ xs) (i.5 ∙ ap (λ xs. unsigned 2 i.0 ++ xs) t.2))

-- a record whose body is a command's
pub from_body : (c : Command) (r : Record) → FitsCommand c → r.tag ≡ tag_of c → r.body ≡ body_encoding c → Encodes c r
from_body c r fits tag body = record { fits = command_fits c fits; encoded = same_record r (tag_of c) (body_of c) tag (body ∙ sym (body_is_plain c)) }

-- the command of each tag but 7 and 10, if the body has the length of the tag
encoded : (r : Record) → AreBytes r.body → IsTag r.tag → r.tag ≢ 7 → r.tag ≢ 10 → length r.body ≡ size_of r.tag → (c : Command) × Encodes c r
unfolding body_encoding
encoded r small tag order until len =
    elim (cases_eq r.tag 1) [
      | inl is ↦ (AddAsset r.body, from_body (AddAsset r.body) r (len ∙ ap size_of is, small) is refl)
      | inr no_1 ↦
          elim (cases_eq r.tag 2) [
            | inl is ↦ (OpenAccount, from_body OpenAccount r tt is (nil_from_length r.body (len ∙ ap size_of is)))
            | inr no_2 ↦
                elim (cases_eq r.tag 3) [
                  | inl is ↦ let m = twelve r.body (len ∙ ap size_of is) small in (Deposit m.0 None m.1, from_body (Deposit m.0 None m.1) r m.2 is m.3)
                  | inr no_3 ↦
                      elim (cases_eq r.tag 4) [
                        | inl is ↦ let m = fourteen r.body (len ∙ ap size_of is) small in (Deposit m.0 (Some m.1) m.2, from_body (Deposit m.0 (Some m.1) m.2) r m.3 is m.4)
                        | inr no_4 ↦
                            elim (cases_eq r.tag 5) [
                              | inl is ↦ let m = twelve r.body (len ∙ ap size_of is) small in (Withdraw m.0 None m.1, from_body (Withdraw m.0 None m.1) r m.2 is m.3)
                              | inr no_5 ↦
                                  elim (cases_eq r.tag 6) [
                                    | inl is ↦ let m = fourteen r.body (len ∙ ap size_of is) small in (Withdraw m.0 (Some m.1) m.2, from_body (Withdraw m.0 (Some m.1) m.2) r m.3 is m.4)
                                    | inr no_6 ↦
                                        elim (cases_eq r.tag 8) [
                                          | inl is ↦ let m = twelve r.body (len ∙ ap size_of is) small in (CancelOrder m.0 m.1, from_body (CancelOrder m.0 m.1) r m.2 is m.3)
                                          | inr no_8 ↦
                                              elim (cases_eq r.tag 9) [
                                                | inl is ↦ let m = whole_number 4 r.body (len ∙ ap size_of is) small in (RunBatch m.0, from_body (RunBatch m.0) r m.1 is m.2)
                                                | inr no_9 ↦
                                                    elim (cases_eq r.tag 11) [
                                                      | inl is ↦ let m = twelve r.body (len ∙ ap size_of is) small in (SetCredit m.0 None m.1, from_body (SetCredit m.0 None m.1) r m.2 is m.3)
                                                      | inr no_11 ↦
                                                          let is : r.tag ≡ 12 = omega (arith, tag.0, tag.1, order, until, no_1, no_2, no_3, no_4, no_5, no_6, no_8, no_9, no_11) in
                                                          let m = fourteen r.body (len ∙ ap size_of is) small in
                                                          (SetCredit m.0 (Some m.1) m.2, from_body (SetCredit m.0 (Some m.1) m.2) r m.3 is m.4)
                                                    ]
                                              ]
                                        ]
                                  ]
                            ]
                      ]
                ]
          ]
    ]

-- a body of another length than its tag's is no command's
pub bad_body : (r : Record) (tag size : ℕ) → r.tag ≡ tag → IsTag tag → tag ≢ 7 → tag ≢ 10 → size ≡ size_of tag → (length r.body ≡ size → ⊥) → IsTag r.tag × EncodesNone r
bad_body r tag size is named order until size_is other = (
  (omega arith, omega arith),
  encodes_none r (λ e. order (sym is ∙ e)) (λ e. until (sym is ∙ e)) (λ e. other (e ∙ ap size_of is ∙ sym size_is)),
)

-- the order of the tag 7, if the body encodes a request
pub order_encoded : (r : Record) (request : Request) → r.tag ≡ 7 → EncodesRequest r.body request → Encodes (Place None request) r
unfolding body_encoding
order_encoded r request is found = from_body (Place None request) r found.fits is found.encoded

-- the order of the tag 10, if the body encodes a last batch and a request
pub until_encoded : (r : Record) (last : ℕ) (request : Request) → r.tag ≡ 10 → EncodesUntil r.body last request → Encodes (Place (Some last) request) r
unfolding body_encoding
until_encoded r last request is found = from_body (Place (Some last) request) r found.fits is found.encoded

-- whether a tag is up to a bound
up_to_or_not : (most tag : ℕ) → ((1 ≤ tag) × (tag ≤ most)) ⊎ ((1 ≤ tag) × (tag ≤ most) → ⊥)
up_to_or_not most tag =
    elim (cases_lt tag 1) [
      | inl none ↦ inr (λ is. omega (arith, none, is.0))
      | inr some ↦ elim (cases_lt most tag) [ inl above ↦ inr (λ is. omega (arith, above, is.1)) | inr below ↦ inl (some, below) ]
    ]

-- the tag is a command's: the record encodes some command, or none
told : (r : Record) → AreBytes r.body → IsTag r.tag → ((c : Command) × Encodes c r) ⊎ EncodesNone r
told r small tag =
    elim (cases_eq r.tag 7) [
      | inl is ↦
          elim (request_told r.body small) [
            | inl found ↦ inl (Place None found.0, order_encoded r found.0 is found.1)
            | inr none ↦ inr (encodes_none-from_request r is none)
          ]
      | inr order ↦
          elim (cases_eq r.tag 10) [
            | inl is ↦
                elim (until_told r.body small) [
                  | inl found ↦ inl (Place (Some found.0) found.1, until_encoded r found.0 found.1 is found.2)
                  | inr none ↦ inr (encodes_none-from_until r is none)
                ]
            | inr until ↦
                elim (cases_eq (length r.body) (size_of r.tag)) [
                  | inl len ↦ inl (encoded r small tag order until len)
                  | inr other ↦ inr (encodes_none r order until other)
                ]
          ]
    ]

-- a record of bytes has a reading, whatever the version
pub seen_some : (r : Record) → AreBytes r.body → (read : Result Command BodyFault) × IsRead r read
seen_some r small =
    elim (up_to_or_not 12 r.tag) [
      | inr unknown ↦ (Err UnknownTag, unknown)
      | inl tag ↦ elim (told r small tag) [ inl found ↦ (Ok found.0, found.1) | inr none ↦ (Err BadBody, (tag, none)) ]
    ]

-- no version has more tags
within_all : (version : Version) (tag : ℕ) → IsTagOf version tag → IsTag tag
within_all One tag is = (is.0, omega (arith, is.1))
within_all version tag is = is

-- a record of bytes has a reading in each version
pub reading_some : (version : Version) (r : Record) → AreBytes r.body → (read : Result Command BodyFault) × IsReadAs version r read
reading_some version r small =
    elim (up_to_or_not (most_tag version) r.tag) [
      | inr unknown ↦ (Err UnknownTag, unknown)
      | inl tag ↦
          elim (told r small (within_all version r.tag tag)) [
            | inl found ↦ (Ok found.0, (tag, found.1))
            | inr none ↦ (Err BadBody, (tag, none))
          ]
    ]

-- each version but the first has all commands
later_tags : (version : Version) → version ≢ One → most_tag version ≡ 12
later_tags One later = absurd (later refl)
later_tags version later = refl

-- what is read whatever the version is read in a version that has all commands
pub seen_in_later : (version : Version) (r : Record) (read : Result Command BodyFault) → version ≢ One → IsRead r read ↔ IsReadAs version r read
seen_in_later version r (Ok c) later =
    (λ s. let tag = tag_of-range c in let is = tag_is c r s in ((omega (arith, is, tag.0), omega (arith, is, tag.1, later_tags version later)), s), λ both. both.1)
seen_in_later version r (Err UnknownTag) later =
    let all = later_tags version later in (λ p tag. p (tag.0, omega (arith, tag.1, all)), λ p tag. p (tag.0, omega (arith, tag.1, all)))
seen_in_later version r (Err BadBody) later =
    let all = later_tags version later in
    (λ p. ((p.0.0, omega (arith, p.0.1, all)), p.1), λ p. ((p.0.0, omega (arith, p.0.1, all)), p.1))

-- the length of an account and an amount of money
money_size : (account ticks : ℕ) → length (unsigned 4 account ++ unsigned 8 ticks) ≡ 12
money_size account ticks = simp (length-append, length-unsigned)

-- the length of an account, an asset and units
units_size : (account asset units : ℕ) → length (unsigned 4 account ++ (unsigned 2 asset ++ unsigned 8 units)) ≡ 14
units_size account asset units = simp (length-append, length-unsigned)

-- the tag of a command with few enough legs is a byte, and its body is within the limit
short_where : (c : Command) → FitsCommand c → HasShortRow c → (tag_of c < 256) × (length (body_encoding c) ≤ 1024)
unfolding body_encoding
short_where (AddAsset ticker) h few = (omega arith, omega (arith, h.0))
short_where OpenAccount h few = (omega arith, omega arith)
short_where (Deposit account None ticks) h few = (omega arith, omega (arith, money_size account ticks))
short_where (Deposit account (Some asset) units) h few = (omega arith, omega (arith, units_size account asset units))
short_where (Withdraw account None ticks) h few = (omega arith, omega (arith, money_size account ticks))
short_where (Withdraw account (Some asset) units) h few = (omega arith, omega (arith, units_size account asset units))
short_where (Place None request) h few = (omega arith, omega (arith, request_size request, few))
short_where (CancelOrder account number) h few = (omega arith, omega (arith, money_size account number))
short_where (RunBatch budget) h few = (omega arith, omega (arith, length-unsigned 4 budget))
short_where (Place (Some last) request) h few = (omega arith, omega (arith, length-append (unsigned 4 last) (request_encoding request), length-unsigned 4 last, request_size request, few))
short_where (SetCredit account None ticks) h few = (omega arith, omega (arith, money_size account ticks))
short_where (SetCredit account (Some asset) units) h few = (omega arith, omega (arith, units_size account asset units))

-- the record of a command with few enough legs is within the limit
pub command_short : (c : Command) → IsCommand c → HasShortRow c → IsRecord most_body (record_of c)
command_short c h few =
    let short = short_where c (command_from c h) few in
    record { tag = short.0; body = omega (arith, short.1, ap length (body_is_plain c)) }
