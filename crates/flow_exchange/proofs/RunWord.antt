-- A run does what the clauses of the program say: it results in a journal.
use Rattle.std.proofs.Common.{◌≡◌, ℕ, List, [], ◌++◌, Ok, Err, refl, sym, ap, ◌∙◌, subst, inl, inr, append-nil, append_assoc}
use Rattle.std.specs.List.{flat_map}
use Rattle.std.proofs.lemmas.List.{flat_map_more}
use Rattle.std.proofs.lemmas.List.Elements.{All-push}
use Rattle.wire_records.specs.Records.{Record, IsRecord, encoding}
use Rattle.wire_records.specs.Reading.{End, NotFlow, File}
use Rattle.wire_records.specs.Reading as reading
use Rattle.wire_records.specs.declared.version.Version.{Version}
use Rattle.journal_records.specs.Formats.{journal_magic_of}
use Rattle.market_rules.specs.Market.{Market, empty_market}
use Rattle.word_driver.specs.declared.fault.Fault.TheVariants as word
use Rattle.word_driver.specs.declared.fault.Never.{Never}
use Rattle.word_driver.specs.Ended.{Ended}
use Rattle.word_driver.specs.Does.{task}
use Rattle.exchange_session.specs.Running.{run}
use Rattle.exchange_session.proofs.RunLaws.{run_is_exact, run_version}
use Rattle.exchange_session.specs.Journals.{Journals}
use Rattle.flow_exchange.specs.declared.form.Form.TheVariants.{Run}
use Rattle.flow_exchange.specs.Statuses.{ended_status}
use Rattle.flow_exchange.specs.Private.{no_reason}
use Rattle.flow_exchange.specs.Running.{RunsTo, RunsShort}
use Rattle.flow_exchange.proofs.Words.{Nothing, IsForm, word_form}

abbrev pub start : Version → Market
start version = empty_market version

-- the opening is the magic of the file's version
pub journals : (records : List Record) (market : Market) (following : List ℕ) (text : List ℕ) (version : Version) → market.version ≡ version → Journals market.version records market (journal_magic_of market.version ++ following) → text ≡ journal_magic_of version ++ following
    → Journals version records market text
journals records market following text version same so is =
    subst (λ (x : List ℕ). Journals version records market x) (sym is) (subst (λ (v : Version). Journals v records market (journal_magic_of v ++ following)) same so)

-- nothing is written at the end
pub ends_there : (version : Version) (text following so_far last : List ℕ) → text ≡ journal_magic_of version ++ following → following ≡ so_far ++ last → last ≡ [] → text ≡ journal_magic_of version ++ so_far
ends_there version text following so_far last is parts none = is ∙ ap (λ xs. journal_magic_of version ++ xs) (parts ∙ ap (λ xs. so_far ++ xs) none ∙ append-nil so_far)

pub runs_to : (limit : ℕ) (bytes : List ℕ) (ended : Ended Never) (text : List ℕ) → (task run start).Comes limit bytes ended text → RunsTo limit bytes (ended_status limit no_reason ended) text
runs_to limit bytes ended text (inl none) = rw none.0 (record { reading = NotFlow; reads = none.1; ends = refl; writes = none.2 })
runs_to limit bytes (Ok done) text (inr (version, body, following, magic, is, on)) =
    let way = on.0 in
    record {
      reading = File version way.units End;
      reads = (body, magic, record { rest = way.rest; whole = way.passes.whole; each = way.passes.each; none = way.halts.0.0; ends = way.halts.0.1 });
      ends = refl;
      writes = (way.state, journals way.units way.state way.so_far text version (run_version (start version) way.state way.units way.so_far way.passes.goes) on.1 (ends_there version text following way.so_far way.last is way.writes way.halts.1));
    }
runs_to limit bytes (Err (word.Torn n)) text (inr (version, body, following, magic, is, on)) =
    let way = on.0 in
    record {
      reading = File version way.units (reading.Torn n);
      reads = (body, magic, record { rest = way.rest; whole = way.passes.whole; each = way.passes.each; none = way.halts.0.0; ends = way.halts.0.1 });
      ends = refl;
      writes = (way.state, journals way.units way.state way.so_far text version (run_version (start version) way.state way.units way.so_far way.passes.goes) on.1 (ends_there version text following way.so_far way.last is way.writes way.halts.1));
    }
runs_to limit bytes (Err word.TooLong) text (inr (version, body, following, magic, is, on)) =
    let way = on.0 in
    record {
      reading = File version way.units reading.TooLong;
      reads = (body, magic, record { rest = way.rest; whole = way.passes.whole; each = way.passes.each; none = way.halts.0.0; ends = way.halts.0.1 });
      ends = refl;
      writes = (way.state, journals way.units way.state way.so_far text version (run_version (start version) way.state way.units way.so_far way.passes.goes) on.1 (ends_there version text following way.so_far way.last is way.writes way.halts.1));
    }
runs_to limit bytes (Err (word.Stopped never)) text (inr on) = elim never [ ]
runs_to limit bytes (Err word.NotFlow) text (inr (version, body, following, magic, is, on)) = absurd on.0.halts
runs_to limit bytes (Err word.Read) text (inr (version, body, following, magic, is, on)) = absurd on.0.halts
runs_to limit bytes (Err word.Write) text (inr (version, body, following, magic, is, on)) = absurd on.0.halts
runs_to limit bytes (Err word.Memory) text (inr (version, body, following, magic, is, on)) = absurd on.0.halts

pub runs_out : (limit : ℕ) (bytes : List ℕ) (text : List ℕ) → (task run start).Lacks limit bytes text → RunsShort limit bytes text
runs_out limit bytes text (version, body, following, magic, is, on) =
    let way = on.0 in
    elim way.allocates [
      | inl (next, more, prefix, allocates) ↦ record {
        version = version;
        records = way.units;
        next = next;
        market = way.state;
        starts = record {
          body = body;
          rest = more;
          magic = magic;
          whole = way.passes.whole ∙ ap (λ xs. flat_map encoding way.units ++ xs) prefix.1 ∙ sym (append_assoc (flat_map encoding way.units) (encoding next) more)
              ∙ ap (λ xs. xs ++ more) (flat_map_more encoding [] way.units next);
          each = All-push (IsRecord 1024) way.units next way.passes.each prefix.0;
        };
        writes = journals way.units way.state following text version (run_version (start version) way.state way.units following way.passes.goes) on.1 is;
        allocates = allocates;
      }
      | inr at ↦ absurd at.1
    ]

-- the run's task is the form of the program
pub run_form : IsForm (task run start) Run no_reason Nothing
run_form = word_form run start run_is_exact Run no_reason runs_to (λ limit bytes n text more. more) runs_out (λ never. elim never [ ]) (λ limit. refl) (λ bytes. refl)
