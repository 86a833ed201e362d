-- The checkpoint subcommand results in one end and one text, and has an end for all bytes.
use Rattle.std.proofs.Common.{◌≡◌, ◌+◌, [], inl, refl, sym, ◌∙◌}
use Rattle.wire_records.specs.declared.version.Version.{Version}
use Rattle.market_rules.specs.Market.{IsConsistent}
use Rattle.market_snapshot.specs.Checkpoints.{checkpoint_bytes}
use Rattle.word_driver.specs.Laws.{IsExact, HasNext}
use Rattle.word_driver.proofs.Denying.{not_denied}
use Rattle.journal_words.specs.Watching.{Watched}
use Rattle.journal_words.proofs.JournalLaws.{IsExactWatch, over_pairs_is_exact, HasSight, over_pairs_has_next}
use Rattle.journal_checkpoint.specs.Checkpointing.{checkpointing, checkpoint}

one_unit : (t r : Unit {0}) → t ≡ r
one_unit t r = refl

checkpointing_is_exact : IsExactWatch checkpointing
checkpointing_is_exact = record {
  one_sight = λ m n pair s t r x y a b. (one_unit t r, a ∙ sym b);
  one_reject = λ m n pair s b c x y p q. (p.0 ∙ sym q.0, p.1 ∙ sym q.1);
  one_close = λ m n s x y a b. a ∙ sym b;
  one_stop = λ m n s b c x y p q. absurd p;
  closes_or_stops = λ m n s b x y p q. q;
}

pub checkpoint_is_exact : IsExact checkpoint
checkpoint_is_exact = over_pairs_is_exact checkpointing checkpointing_is_exact

checkpointing_has_sight : HasSight checkpointing
checkpointing_has_sight = record {
  some_sight = λ old new n pair s legal. (s, [], refl);
  some_reject = λ m n pair s consistent illegal. not_denied (n + 1, [], (refl, refl));
  some_close = λ m n s. inl (checkpoint_bytes m, refl);
}

pub checkpoint_has_next : (start : Version → Watched (Unit {0})) → ((version : Version) → IsConsistent (start version).market) → HasNext checkpoint start
checkpoint_has_next = over_pairs_has_next checkpointing checkpointing_has_sight
