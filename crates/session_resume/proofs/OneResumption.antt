-- An input has one result and one text, and what is written for its first records is a prefix of that text.
use Rattle.std.proofs.Common.{◌≡◌, ◌+◌, ℕ, List, [], ◌∷◌, ◌++◌, map, append_assoc, refl, sym, ap, subst, ◌∙◌, inl, inr}
use Rattle.std.specs.Prelude.{All}
use Rattle.std.specs.List.{flat_map}
use Rattle.std.proofs.lemmas.Grind.{flat_map-append}
use Rattle.std.proofs.lemmas.List.Elements.{All-append}
use Rattle.wire_records.specs.Records.{Record}
use Rattle.wire_records.specs.Commands.{Pair}
use Rattle.wire_records.specs.Versions.{IsReadAs}
use Rattle.wire_records.specs.Grammars.{encode_all}
use Rattle.wire_records.specs.Reading.{Ending, End, Torn, TooLong, ReadsOn, EndsAs}
use Rattle.wire_records.specs.Formats.{commands}
use Rattle.wire_records.proofs.CodeLaws.{parted, values_unique}
use Rattle.wire_records.proofs.Readings.{reading_unique}
use Rattle.wire_records.proofs.ReadingLaws.{reads_on_one}
use Rattle.wire_records.proofs.RecordCode.{commands_readable}
use Rattle.flow_orders.specs.Outcomes.{Outcome}
use Rattle.canonical_rule.specs.Canonical.{IsCanonicalOutcome}
use Rattle.journal_records.specs.Pairs.{pair_encoding}
use Rattle.journal_records.specs.Formats.{journals}
use Rattle.market_rules.specs.Market.{Market}
use Rattle.market_rules.specs.Journal.{Follows}
use Rattle.canonical_journals.proofs.OneCanonicalJournal.{own_step}
use Rattle.word_driver.specs.Ended.{Ended}
use Rattle.session_resume.specs.declared.first.Origin.{Origin}
use Rattle.session_resume.specs.declared.first.Origin.TheVariants.{Journal, Checkpoint}
use Rattle.session_resume.specs.declared.first.Unfit.{Unfit}
use Rattle.session_resume.specs.Firsts.{First, Neither, NoCheckpoint, Illegal, Whole}
use Rattle.session_resume.specs.Continuing.{Continues}
use Rattle.session_resume.specs.Rests.{Rest, Cut, Nothing, Commands, Other, ServesAll, IsNoFile, RestComesTo, ended_by}
use Rattle.session_resume.specs.Resuming.{EndsUnsound, FirstComesTo, Resumes, ResumesFirst, ResumesInto, ResumesShort}
use Rattle.session_resume.proofs.OneFirst.{one_first, one_rest}

-- ---- entries

abbrev asked_of : List (Pair Record Outcome) → List Record
asked_of pairs = map (λ (pair : Pair Record Outcome). pair.asked) pairs

same_pair : (p q : Pair Record Outcome) → p.asked ≡ q.asked → p.answer ≡ q.answer → p ≡ q
same_pair p q a b =
    let made : Record → _ → Pair Record Outcome = λ asked answer. record { asked = asked; answer = answer } in
    ap (λ asked. made asked p.answer) a ∙ ap (λ answer. made q.asked answer) b

heads : (a b : Record) (x y : List Record) → a ∷ x ≡ b ∷ y → (a ≡ b) × (x ≡ y)
heads a b x y e = (cc, cc)

-- the entries that answer the first of some records are the first of those that answer all
prefix_of : (old m n : Market) (p q : List (Pair Record Outcome)) (more : List Record) → asked_of q ≡ asked_of p ++ more → Follows IsReadAs IsCanonicalOutcome old p m → Follows IsReadAs IsCanonicalOutcome old q n → (rest : List (Pair Record Outcome)) × (q ≡ p ++ rest)
prefix_of old m n [] q more e first all = (q, refl)
prefix_of old m n (x ∷ xs) [] more e first all = absurd cc
prefix_of old m n (x ∷ xs) (y ∷ ys) more e first all =
    let asked = heads y.asked x.asked (asked_of ys) (asked_of xs ++ more) e in
    let step = own_step IsReadAs reading_unique old x.asked x.answer y.answer first.0 all.0 first.1 (rw asked.0 at all.1) in
    let rest = prefix_of first.0 m n xs ys more asked.1 first.2 (rw (← step.1) at all.2) in
    (rest.0, ap (λ (p : Pair Record Outcome). p ∷ ys) (same_pair y x asked.0 (sym step.0)) ∙ ap (λ (ps : List (Pair Record Outcome)). x ∷ ps) rest.1)

-- the text for the first of some records is a prefix of the text for all
pub continues_prefix : (old m n : Market) (records all more : List Record) (x y : List ℕ) → all ≡ records ++ more → Continues old records m x → Continues old all n y → (rest : List ℕ) × (y ≡ x ++ rest)
continues_prefix old m n records all more x y e first whole =
    let asked : asked_of whole.pairs ≡ asked_of first.pairs ++ more = whole.answered.asked ∙ e ∙ ap (λ (rs : List Record). rs ++ more) (sym first.answered.asked) in
    let prefix = prefix_of old m n first.pairs whole.pairs more asked first.answered.steps whole.answered.steps in
    (flat_map pair_encoding prefix.0, whole.encoded ∙ ap (flat_map pair_encoding) prefix.1 ∙ flat_map-append pair_encoding first.pairs prefix.0 ∙ ap (λ xs. xs ++ flat_map pair_encoding prefix.0) (sym first.encoded))

-- the answers to the same records are the same
one_from : (old m n : Market) (p q : List (Pair Record Outcome)) → asked_of p ≡ asked_of q → Follows IsReadAs IsCanonicalOutcome old p m → Follows IsReadAs IsCanonicalOutcome old q n → (p ≡ q) × (m ≡ n)
one_from old m n [] [] e first other = (refl, first ∙ sym other)
one_from old m n [] (y ∷ ys) e first other = absurd cc
one_from old m n (x ∷ xs) [] e first other = absurd cc
one_from old m n (x ∷ xs) (y ∷ ys) e first other =
    let asked = heads x.asked y.asked (asked_of xs) (asked_of ys) e in
    let step = own_step IsReadAs reading_unique old x.asked x.answer y.answer first.0 other.0 first.1 (rw asked.0 other.1) in
    let rest = one_from first.0 m n xs ys asked.1 first.2 (rw step.1 other.2) in
    (rw (same_pair x y asked.0 step.0, rest.0) refl, rest.1)

pub continues_one : (old m n : Market) (records all : List Record) (x y : List ℕ) → records ≡ all → Continues old records m x → Continues old all n y → (m ≡ n) × (x ≡ y)
continues_one old m n records all x y e a b =
    let one = one_from old m n a.pairs b.pairs (a.answered.asked ∙ e ∙ sym b.answered.asked) a.answered.steps b.answered.steps in
    (one.1, a.encoded ∙ ap (flat_map pair_encoding) one.0 ∙ sym b.encoded)

-- ---- rests

-- there is one ending
ends_one : (More : Type 0) (rest : List ℕ) (place : ℕ) (e f : Ending) → EndsAs journals More rest place e → EndsAs journals More rest place f → e ≡ f
ends_one More rest place End End a b = refl
ends_one More rest place End TooLong a b = absurd (a.1 b.1)
ends_one More rest place End (Torn n) a b = absurd (elim b.1 [ inl over ↦ a.0 over | inr short ↦ short.1 a.2 ])
ends_one More rest place TooLong End a b = absurd (b.1 a.1)
ends_one More rest place TooLong TooLong a b = refl
ends_one More rest place TooLong (Torn n) a b = absurd (elim b.1 [ inl over ↦ a.0 over | inr short ↦ short.0 a.1 ])
ends_one More rest place (Torn n) End a b = absurd (elim a.1 [ inl over ↦ b.0 over | inr short ↦ short.1 b.2 ])
ends_one More rest place (Torn n) TooLong a b = absurd (elim a.1 [ inl over ↦ b.0 over | inr short ↦ short.0 b.1 ])
ends_one More rest place (Torn n) (Torn m) a b = ap Torn (a.0 ∙ sym b.0)

no_file_one : (origin : Origin) (More : Type 0) (place : ℕ) (rest : List ℕ) (e f : Ended Unfit) → IsNoFile origin More place rest e → IsNoFile origin More place rest f → e ≡ f
no_file_one Journal More place rest e f a b = a.2 ∙ ap ended_by (ends_one More rest place a.0 b.0 a.1 b.1) ∙ sym b.2
no_file_one Checkpoint More place rest e f a b = a ∙ sym b

serves_one : (market : Market) (More : Type 0) (place : ℕ) (body : List ℕ) (e f : Ended Unfit) (x y : List ℕ) → ServesAll market More place body e x → ServesAll market More place body f y → (e ≡ f) × (x ≡ y)
serves_one market More place body e f x y a b =
    let one = reads_on_one commands commands_readable place More body a.records b.records a.ending b.ending a.reads b.reads in
    (a.ends ∙ ap ended_by one.1 ∙ sym b.ends, (continues_one market a.new b.new a.records b.records x y one.0 a.writes b.writes).1)

rest_one : (origin : Origin) (market : Market) (More : Type 0) (place : ℕ) (rest : List ℕ) (following : Rest) (e f : Ended Unfit) (x y : List ℕ) → RestComesTo origin market More place rest following e x → RestComesTo origin market More place rest following f y → (e ≡ f) × (x ≡ y)
rest_one origin market More place rest Cut e f x y a b = (a.0 ∙ sym b.0, a.1 ∙ sym b.1)
rest_one origin market More place rest Nothing e f x y a b = (a.0 ∙ sym b.0, a.1 ∙ sym b.1)
rest_one origin market More place rest (Commands body) e f x y a b = serves_one market More (place + 8) body e f x y a b
rest_one origin market More place rest Other e f x y a b = (no_file_one origin More place rest e f a.0 b.0, a.1 ∙ sym b.1)

-- ---- inputs

unsound_one : (More : Type 0) (e f : Ended Unfit) → EndsUnsound More e → EndsUnsound More f → e ≡ f
unsound_one More e f (inl a) (inl b) = a.1 ∙ sym b.1
unsound_one More e f (inl a) (inr b) = absurd (b.0 a.0)
unsound_one More e f (inr a) (inl b) = absurd (a.0 b.0)
unsound_one More e f (inr a) (inr b) = a.1 ∙ sym b.1

comes_one : (More : Type 0) (first : First) (e f : Ended Unfit) (x y : List ℕ) → FirstComesTo More first e x → FirstComesTo More first f y → (e ≡ f) × (x ≡ y)
comes_one More Neither e f x y a b = (a.0 ∙ sym b.0, a.1 ∙ sym b.1)
comes_one More NoCheckpoint e f x y a b = (unsound_one More e f a.0 b.0, a.1 ∙ sym b.1)
comes_one More (Illegal number) e f x y a b = (a.0 ∙ sym b.0, a.1 ∙ sym b.1)
comes_one More (Whole origin market place rest) e f x y a b =
    let same = one_rest market.version More rest a.0 b.0 a.1 b.1 in
    rest_one origin market More place rest b.0 e f x y (subst (λ (r : Rest). RestComesTo origin market More place rest r e x) same a.2) b.2

pub one_end_of : (More : Type 0) (bytes : List ℕ) (e f : Ended Unfit) (x y : List ℕ) → Resumes More bytes e x → Resumes More bytes f y → (e ≡ f) × (x ≡ y)
one_end_of More bytes e f x y a b =
    let same = one_first bytes a.first b.first a.stands b.stands in
    comes_one More b.first e f x y (subst (λ (first : First). FirstComesTo More first e x) same a.comes) b.comes

-- ---- prefixes

-- the first records of bytes are the first of all that are there
first_records : (body : List ℕ) (records all : List Record) (left rest : List ℕ) → body ≡ encode_all commands.units records ++ left → All commands.units.IsLawful records → (place : ℕ) (More : Type 0) (ending : Ending) → ReadsOn commands place More body all ending → (more : List Record) × (all ≡ records ++ more)
first_records body records all left rest whole each place More ending reads =
    let parts = parted commands.units commands_readable.units left in
    let encoded : body ≡ encode_all commands.units (records ++ parts.values) ++ parts.rest =
    whole ∙ ap (λ xs. encode_all commands.units records ++ xs) parts.whole
    ∙ sym (append_assoc (encode_all commands.units records) (encode_all commands.units parts.values) parts.rest)
    ∙ ap (λ xs. xs ++ parts.rest) (sym (flat_map-append commands.units.encode records parts.values))
    in
    let lawful = All-append commands.units.IsLawful records parts.values each parts.each in
    let same = values_unique commands.units commands_readable.units all (records ++ parts.values) reads.rest parts.rest reads.each lawful reads.none parts.none (sym reads.whole ∙ encoded) in
    (parts.values, same.0)

abbrev Begins : List ℕ → List ℕ → Type 0
Begins text begun = (rest : List ℕ) × (text ≡ begun ++ rest)

pub first_is_prefix : (More : Type 0) (bytes : List ℕ) (ended : Ended Unfit) (text begun : List ℕ) (records : List Record) (left : List ℕ) (new : Market) → Resumes More bytes ended text → ResumesFirst bytes records left new begun → Begins text begun
first_is_prefix More bytes ended text begun records left new all begins =
    let same = one_first bytes all.first (Whole begins.origin begins.market begins.place begins.rest) all.stands begins.stands in
    let comes : FirstComesTo More (Whole begins.origin begins.market begins.place begins.rest) ended text = subst (λ (first : First). FirstComesTo More first ended text) same all.comes in
    let following = one_rest begins.market.version More begins.rest comes.0 (Commands begins.body) comes.1 begins.magic in
    let serves : ServesAll begins.market More (begins.place + 8) begins.body ended text = subst (λ (r : Rest). RestComesTo begins.origin begins.market More begins.place begins.rest r ended text) following comes.2 in
    let prefix = first_records begins.body records serves.records left serves.reads.rest begins.whole begins.each (begins.place + 8) More serves.ending serves.reads in
    continues_prefix begins.market new serves.new records serves.records prefix.0 begun text prefix.1 begins.writes serves.writes

pub into_is_prefix : (More : Type 0) (bytes : List ℕ) (ended : Ended Unfit) (text begun : List ℕ) → Resumes More bytes ended text → ResumesInto bytes begun → Begins text begun
into_is_prefix More bytes ended text begun all into = first_is_prefix More bytes ended text begun into.records into.left into.new all into.first

pub short_is_prefix : (More : Type 0) (bytes : List ℕ) (ended : Ended Unfit) (text begun : List ℕ) → Resumes More bytes ended text → ResumesShort bytes begun → Begins text begun
short_is_prefix More bytes ended text begun all short = first_is_prefix More bytes ended text begun short.records short.left short.new all short.first
