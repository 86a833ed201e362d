-- A run writes the magic by one call, and each entry by one.
use Rattle.std.proofs.Common.{◌≡◌, ◌⊎◌, ◌<◌, ℕ, List, [], ◌∷◌, ◌++◌, length, map, Option, Some, None, Err, length-append, inl, inr, refl, sym, ap, ◌∙◌, arith}
use Rattle.std.proofs.lemmas.List.{map-append}
use Rattle.flow_io.specs.Streams.{HandsOver}
use Rattle.flow_io.proofs.Calls.{hands_alike}
use Rattle.wire_records.specs.Records.{Record, encoding}
use Rattle.wire_records.specs.Commands.{Pair}
use Rattle.wire_records.proofs.Encoded.{length-encoding}
use Rattle.wire_records.specs.declared.version.Version.{Version}
use Rattle.flow_orders.specs.Outcomes.{Outcome}
use Rattle.journal_records.specs.Replies.{answer_record}
use Rattle.journal_records.specs.Pairs.{pair_encoding}
use Rattle.journal_records.specs.Formats.{journal_magic_of}
use Rattle.market_rules.specs.Market.{Market}
use Rattle.word_driver.specs.declared.fault.Fault.TheVariants as word
use Rattle.word_driver.specs.declared.fault.Never.{Never}
use Rattle.word_driver.specs.Ended.{Ended}
use Rattle.word_driver.specs.Pieces.{piece, HasPieces, IsWriting, IsByPieces}
use Rattle.exchange_session.specs.Running.{run}
use Rattle.exchange_session.specs.Serving.{AnswersOne}
use Rattle.flow_exchange.specs.Statuses.{ended_status}
use Rattle.flow_exchange.specs.Private.{no_reason}
use Rattle.flow_exchange.specs.Running.{AreMagicAndPairs, WritesInPieces}
use Rattle.flow_exchange.proofs.RunWord.{start}

-- a text that isn't empty is one piece
one_piece : (text : List ℕ) → 0 < length text → piece text ≡ text ∷ []
one_piece [] some = absurd (omega (arith, some))
one_piece (x ∷ xs) some = refl

-- an entry isn't empty
pair_long : (pair : Pair Record Outcome) → 0 < length (pair_encoding pair)
unfolding pair_encoding
pair_long pair = omega (arith, length-append (encoding pair.asked) (encoding (answer_record pair.answer)), length-encoding pair.asked)

-- an entry is one piece
one_pair : (pair : Pair Record Outcome) → piece (pair_encoding pair) ≡ pair_encoding pair ∷ []
one_pair pair = one_piece (pair_encoding pair) (pair_long pair)

-- a magic is one piece
one_magic : (version : Version) → piece (journal_magic_of version) ≡ journal_magic_of version ∷ []
one_magic version = refl

-- what answers a record is an entry
answered : (old new : Market) (asked : Record) (text : List ℕ) → AnswersOne old asked new text → (pair : Pair Record Outcome) × (piece text ≡ pair_encoding pair ∷ [])
answered old new asked text step =
    let pair : Pair Record Outcome = record { asked = asked; answer = step.answer } in
    (pair, ap piece step.encoded ∙ one_pair pair)

-- the pieces of records are entries
taken : (old new : Market) (records : List Record) (pieces : List (List ℕ)) → HasPieces run old records new pieces → (pairs : List (Pair Record Outcome)) × (pieces ≡ map pair_encoding pairs)
taken old new [] pieces has = ([], has.1)
taken old new (asked ∷ records) pieces has =
    let one = answered old has.0 asked has.1 has.3 in
    let rest = taken has.0 new records has.2 has.4 in
    (one.0 ∷ rest.0, has.5 ∙ ap (λ xs. xs ++ has.2) one.1 ∙ ap (λ xs. pair_encoding one.0 ∷ xs) rest.1)

-- what was written last is at most one entry
last : (old : Market) (at : Option Record) (text : List ℕ) → (text ≡ []) ⊎ IsWriting run old at text → (pairs : List (Pair Record Outcome)) × (piece text ≡ map pair_encoding pairs)
last old at text (inl none) = ([], ap piece none)
last old (Some asked) text (inr (inl step)) = let one = answered old step.0 asked text step.1 in (one.0 ∷ [], one.1)
last old (Some asked) text (inr (inr stops)) = absurd stops.1
last old None text (inr (inl closes)) = ([], ap piece closes)
last old None text (inr (inr stops)) = absurd stops.1

magic_and_pairs : (pieces : List (List ℕ)) → IsByPieces run start pieces → AreMagicAndPairs pieces
magic_and_pairs pieces (inl none) = inl none
magic_and_pairs pieces (inr (version, following, on, all)) =
    let first = taken (start version) on.state on.units on.taken on.goes in
    let more = last on.state on.at on.last on.ends in
    let pairs = first.0 ++ more.0 in
    let these : following ≡ map pair_encoding pairs = on.all ∙ ap (λ xs. xs ++ piece on.last) first.1 ∙ ap (λ xs. map pair_encoding first.0 ++ xs) more.1 ∙ sym (map-append pair_encoding first.0 more.0) in
    inr (version, pairs, all ∙ ap (λ xs. xs ++ following) (one_magic version) ∙ ap (λ xs. journal_magic_of version ∷ xs) these)

pub writes_in_pieces : {O : Type 0} (calls : O → Option (List (List ℕ))) (held : O → Option (List ℕ)) (before after : O) (limit : ℕ) (ended : Ended Never) → (pieces : List (List ℕ)) × IsByPieces run start pieces × HandsOver calls held before after (ended ≡ Err word.Write) pieces
    → WritesInPieces calls held before after (ended_status limit no_reason ended)
writes_in_pieces calls held before after limit ended (pieces, by, hands) =
    (pieces, magic_and_pairs pieces by, hands_alike calls held before after pieces (λ not e. not (ap (ended_status limit no_reason) e)) hands)
