-- The bodies of commands.
use Rattle.std.proofs.Common.{◌≡◌, ◌≢◌, ◌<◌, ◌^◌, ℕ, List, [], ◌++◌, length, length-append, refl, sym, ap, ◌∙◌, arith, None, Some}
use Rattle.std.proofs.lemmas.List.{append-nil}
use Rattle.std.specs.Prelude.{if◌then◌else◌, ◌==◌}
use Rattle.wire_fields.specs.Numbers.{unsigned, IsUnsigned}
use Rattle.wire_fields.proofs.Encoding.{length-unsigned, unsigned_unique}
use Rattle.wire_records.specs.Records.{Record}
use Rattle.wire_records.specs.Commands.{Request, Command, AddAsset, OpenAccount, Deposit, Withdraw, Place, CancelOrder, RunBatch, SetCredit}
use Rattle.wire_records.specs.CommandRecords.{tag_of, Encodes, EncodesNone}
use Rattle.wire_records.specs.Bodies.{body_encoding, request_encoding, IsRequest, FitsCommand}
use Rattle.wire_records.specs.Private.{EncodesNoRequest, EncodesNoUntil}
use Rattle.wire_records.proofs.FieldForms.{body_is_plain, command_from}
use Rattle.wire_records.proofs.Requests.{request_unique}

-- how long the body of a command with this tag is, for the tags 1 to 12 but 7 and 10
abbrev pub size_of : ℕ → ℕ
size_of tag =
    if tag == 1 then 8 else (if tag == 2 then 0 else (if tag == 3 then 12 else (if tag == 4 then 14 else (if tag == 5 then 12 else (if tag == 6 then 14 else (if tag == 8 then 12 else (if tag == 9 then 4 else (if tag == 11 then 12 else 14))))))))

-- a body has the length of its tag
pub length-body : (c : Command) → FitsCommand c → tag_of c ≢ 7 → tag_of c ≢ 10 → length (body_encoding c) ≡ size_of (tag_of c)
unfolding body_encoding
length-body (AddAsset ticker) h other until = h.0
length-body OpenAccount h other until = refl
length-body (Deposit account None ticks) h other until = simp (length-append, length-unsigned)
length-body (Withdraw account None ticks) h other until = simp (length-append, length-unsigned)
length-body (Place None request) h other until = absurd (other refl)
length-body (RunBatch budget) h other until = length-unsigned 4 budget
length-body (Place (Some last) request) h other until = absurd (until refl)
length-body (SetCredit account None ticks) h other until = simp (length-append, length-unsigned)
length-body command h other until = simp (length-append, length-unsigned)

-- a record is its tag and its body
pub same_record : (r : Record) (tag : ℕ) (body : List ℕ) → r.tag ≡ tag → r.body ≡ body → r ≡ record { tag = tag; body = body }
same_record r tag body a b = rw (← a, ← b) refl

-- the tag and the body of a command's record
pub tag_is : (c : Command) (r : Record) → Encodes c r → r.tag ≡ tag_of c
tag_is c r s = ap (λ (x : Record). x.tag) s.encoded

pub body_is : (c : Command) (r : Record) → Encodes c r → r.body ≡ body_encoding c
body_is c r s = ap (λ (x : Record). x.body) s.encoded ∙ body_is_plain c

-- a body of another length than its tag's is no command's
pub encodes_none : (r : Record) → r.tag ≢ 7 → r.tag ≢ 10 → length r.body ≢ size_of r.tag → EncodesNone r
encodes_none r order until other c s =
    let tags = tag_is c r s in
    other (ap length (body_is c r s) ∙ length-body c (command_from c s.fits) (λ e. order (tags ∙ e)) (λ e. until (tags ∙ e)) ∙ ap size_of (sym tags))

-- a command of the tag 7 has the body of a request
is_request : (c : Command) → FitsCommand c → tag_of c ≡ 7 → EncodesNoRequest (body_encoding c) → ⊥
unfolding body_encoding
is_request (Place None request) h e none = none request (record { fits = h; encoded = refl })
is_request (Deposit account None ticks) h e none = absurd (omega (arith, e))
is_request (Withdraw account None ticks) h e none = absurd (omega (arith, e))
is_request (SetCredit account None ticks) h e none = absurd (omega (arith, e))
is_request command h e none = absurd (omega (arith, e))

-- a body that encodes no request is no order's
pub encodes_none-from_request : (r : Record) → r.tag ≡ 7 → EncodesNoRequest r.body → EncodesNone r
encodes_none-from_request r order none c s =
    is_request c (command_from c s.fits) (sym (tag_is c r s) ∙ order) (rw (body_is c r s) at none)

-- a command of the tag 10 has the body of a last batch and a request
is_until : (c : Command) → FitsCommand c → tag_of c ≡ 10 → EncodesNoUntil (body_encoding c) → ⊥
unfolding body_encoding
is_until (Place (Some last) request) h e none = none last request (record { fits = h; encoded = refl })
is_until (Deposit account None ticks) h e none = absurd (omega (arith, e))
is_until (Withdraw account None ticks) h e none = absurd (omega (arith, e))
is_until (SetCredit account None ticks) h e none = absurd (omega (arith, e))
is_until command h e none = absurd (omega (arith, e))

-- a body that encodes no last batch with a request is no such order's
pub encodes_none-from_until : (r : Record) → r.tag ≡ 10 → EncodesNoUntil r.body → EncodesNone r
encodes_none-from_until r until none c s =
    is_until c (command_from c s.fits) (sym (tag_is c r s) ∙ until) (rw (body_is c r s) at none)

-- two last batches with requests after them, of one encoding
until_unique : (m n : ℕ) (r s : Request) → IsUnsigned 4 m × IsRequest r → IsUnsigned 4 n × IsRequest s → unsigned 4 m ++ request_encoding r ≡ unsigned 4 n ++ request_encoding s → (m ≡ n) × (r ≡ s)
until_unique m n r s h k e =
    let lasts = unsigned_unique 4 m n _ _ h.0 k.0 e in
    (lasts.0, request_unique r s h.1 k.1 lasts.1)

-- two amounts of money of one encoding, or an account and another number of its width
money_unique : (a t b u : ℕ) → (a < 2 ^ 32) × (t < 2 ^ 64) → (b < 2 ^ 32) × (u < 2 ^ 64) → unsigned 4 a ++ unsigned 8 t ≡ unsigned 4 b ++ unsigned 8 u → (a ≡ b) × (t ≡ u)
money_unique a t b u h k e =
    let accounts = unsigned_unique 4 a b _ _ h.0 k.0 e in
    let ticks = unsigned_unique 8 t u [] [] h.1 k.1 (append-nil (unsigned 8 t) ∙ accounts.1 ∙ sym (append-nil (unsigned 8 u))) in
    (accounts.0, ticks.0)

-- two amounts of units of one encoding
units_unique : (a i t b j u : ℕ) → (a < 2 ^ 32) × (i < 2 ^ 16) × (t < 2 ^ 64) → (b < 2 ^ 32) × (j < 2 ^ 16) × (u < 2 ^ 64) → unsigned 4 a ++ (unsigned 2 i ++ unsigned 8 t) ≡ unsigned 4 b ++ (unsigned 2 j ++ unsigned 8 u) → (a ≡ b) × (i ≡ j) × (t ≡ u)
units_unique a i t b j u h k e =
    let accounts = unsigned_unique 4 a b _ _ h.0 k.0 e in
    let assets = unsigned_unique 2 i j _ _ h.1 k.1 accounts.1 in
    let units = unsigned_unique 8 t u [] [] h.2 k.2 (append-nil (unsigned 8 t) ∙ assets.1 ∙ sym (append-nil (unsigned 8 u))) in
    (accounts.0, assets.0, units.0)

-- a number that is all of a body is read once
pub number_unique : (size m n : ℕ) → IsUnsigned size m → IsUnsigned size n → unsigned size m ≡ unsigned size n → m ≡ n
number_unique size m n a b e =
    let found = unsigned_unique size m n [] [] a b (append-nil (unsigned size m) ∙ e ∙ sym (append-nil (unsigned size n))) in
    found.0

-- two commands of one tag and one body are one
same_command : (c d : Command) → FitsCommand c → FitsCommand d → tag_of c ≡ tag_of d → body_encoding c ≡ body_encoding d → c ≡ d
unfolding body_encoding
same_command (AddAsset t) (AddAsset u) h k tags bodies = ap AddAsset bodies
same_command OpenAccount OpenAccount h k tags bodies = refl
same_command (Deposit a None t) (Deposit b None u) h k tags bodies = let e = money_unique a t b u h k bodies in rw (e.0, e.1) refl
same_command (Deposit a (Some i) t) (Deposit b (Some j) u) h k tags bodies = let e = units_unique a i t b j u h k bodies in rw (e.0, e.1, e.2) refl
same_command (Withdraw a None t) (Withdraw b None u) h k tags bodies = let e = money_unique a t b u h k bodies in rw (e.0, e.1) refl
same_command (Withdraw a (Some i) t) (Withdraw b (Some j) u) h k tags bodies = let e = units_unique a i t b j u h k bodies in rw (e.0, e.1, e.2) refl
same_command (Place None r) (Place None s) h k tags bodies = ap (Place None) (request_unique r s h k bodies)
same_command (CancelOrder a n) (CancelOrder b m) h k tags bodies = let e = money_unique a n b m h k bodies in rw (e.0, e.1) refl
same_command (RunBatch m) (RunBatch n) h k tags bodies = ap RunBatch (number_unique 4 m n h k bodies)
same_command (Place (Some m) r) (Place (Some n) s) h k tags bodies = let e = until_unique m n r s h k bodies in rw (e.0, e.1) refl
same_command (SetCredit a None t) (SetCredit b None u) h k tags bodies = let e = money_unique a t b u h k bodies in rw (e.0, e.1) refl
same_command (SetCredit a (Some i) t) (SetCredit b (Some j) u) h k tags bodies = let e = units_unique a i t b j u h k bodies in rw (e.0, e.1, e.2) refl
same_command command (Deposit b None u) h k tags bodies = absurd (omega (arith, tags))
same_command command (Withdraw b None u) h k tags bodies = absurd (omega (arith, tags))
same_command command (Place None s) h k tags bodies = absurd (omega (arith, tags))
same_command command (SetCredit b None u) h k tags bodies = absurd (omega (arith, tags))
same_command command d h k tags bodies = absurd (omega (arith, tags))

-- a record encodes at most one command
pub command_unique : (c d : Command) (r : Record) → Encodes c r → Encodes d r → c ≡ d
command_unique c d r p q =
    same_command c d (command_from c p.fits) (command_from d q.fits) (sym (tag_is c r p) ∙ tag_is d r q) (sym (body_is c r p) ∙ body_is d r q)
