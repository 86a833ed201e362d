-- A magic after the entries of a history states a length above that of any record, and so is no entry.
use Rattle.std.proofs.Common.{◌≡◌, ◌+◌, ℕ, List, [], ◌∷◌, ◌++◌, map, length, take, inl, inr, refl, sym, ap, subst, ◌∙◌, append_assoc, length-append, arith}
use Rattle.std.specs.List.{flat_map}
use Rattle.wire_fields.specs.Numbers.{unsigned}
use Rattle.wire_records.specs.Records.{head, StatesLength, most_body}
use Rattle.wire_records.specs.Grammars.{BeginsWithNone, encode_all}
use Rattle.wire_records.specs.Reading.{Torn}
use Rattle.wire_records.specs.Formats.{StatesOver, command_magic_of}
use Rattle.wire_records.specs.declared.version.Version.{Version}
use Rattle.wire_records.specs.Versions.{number_of}
use Rattle.wire_records.proofs.Prefixes.{no_prefix-from_overlong}
use Rattle.journal_records.specs.Replies.{most_reply_body}
use Rattle.journal_records.specs.Pairs.{pair_encoding}
use Rattle.journal_records.specs.Formats.{journal_magic_of, journals, records_of}
use Rattle.journal_records.proofs.PairPrefixes.{no_pair-from_first}
use Rattle.market_snapshot.specs.Checkpoints.{checkpoint_magic}
use Rattle.market_history.specs.Histories.{encode_start}
use Rattle.exit_status.specs.declared.status.Status.TheVariants as answer
use Rattle.flow_exchange.proofs.HistoryOf.{history_of, makes_of, judged_all}
use Rattle.flow_laws.specs.Laws.{IsMagic, TornAtMagics}
use Rattle.flow_laws.proofs.AuditLaws.{audited, encoded_alike, lawful_pairs}

-- what the second to the fifth byte of a magic state
abbrev of_commands : ℕ
of_commands = 1280268099

abbrev of_journals : ℕ
of_journals = 1280268106

abbrev of_checkpoints : ℕ
of_checkpoints = 1280268115

states_commands : (version : Version) (body : List ℕ) → StatesLength of_commands (command_magic_of version ++ body)
unfolding head unsigned
states_commands version body = (omega arith, 70, omega arith, 77 ∷ 68 ∷ (48 + number_of version) ∷ body, refl)

states_journals : (version : Version) (body : List ℕ) → StatesLength of_journals (journal_magic_of version ++ body)
unfolding head unsigned
states_journals version body = (omega arith, 70, omega arith, 78 ∷ 76 ∷ (48 + number_of version) ∷ body, refl)

states_checkpoints : (body : List ℕ) → StatesLength of_checkpoints (checkpoint_magic ++ body)
unfolding head unsigned
states_checkpoints body = (omega arith, 70, omega arith, 78 ∷ 80 ∷ 49 ∷ body, refl)

-- each states more than a record may have
states_over : (magic body : List ℕ) → IsMagic magic → StatesOver most_body (magic ++ body)
states_over magic body (inl is) = subst (λ (xs : List ℕ). StatesOver most_body (xs ++ body)) (sym is) (of_checkpoints, states_checkpoints body, omega arith)
states_over magic body (inr (inl (version, is))) = subst (λ (xs : List ℕ). StatesOver most_body (xs ++ body)) (sym is) (of_journals, states_journals version body, omega arith)
states_over magic body (inr (inr (version, is))) = subst (λ (xs : List ℕ). StatesOver most_body (xs ++ body)) (sym is) (of_commands, states_commands version body, omega arith)

no_entry : (bytes : List ℕ) → StatesOver most_body bytes → BeginsWithNone journals.units bytes
no_entry bytes over = no_pair-from_first most_body most_reply_body bytes (no_prefix-from_overlong most_body over.0 bytes (omega arith) over.1 over.2)

pub torn_at_magics : TornAtMagics
torn_at_magics limit bytes magic more start pairs market begins legal is whole =
    let rest = magic ++ more in
    let units = map records_of pairs in
    let body = encode_all journals.units units ++ rest in
    let over = states_over magic more is in
    let place : length (encode_start start ++ flat_map pair_encoding pairs) ≡ length (encode_start start) + length (encode_all journals.units units) =
    length-append (encode_start start) (flat_map pair_encoding pairs) ∙ ap (λ (xs : List ℕ). length (encode_start start) + length xs) (encoded_alike pairs)
    in
    let first : take limit bytes ≡ encode_start start ++ body =
    whole ∙ append_assoc (encode_start start) (flat_map pair_encoding pairs) rest ∙ ap (λ (xs : List ℕ). encode_start start ++ (xs ++ rest)) (encoded_alike pairs)
    in
    let at = length (encode_start start ++ flat_map pair_encoding pairs) in
    makes_of audited limit bytes (answer.Torn at) [] (history_of start pairs market [] (Torn at))
    (judged_all limit bytes body start (begins, first) units rest refl (lawful_pairs pairs legal.each) pairs refl legal.each market legal.steps (Torn at) (no_entry rest over) (place, inl (inl over)))
    refl refl
