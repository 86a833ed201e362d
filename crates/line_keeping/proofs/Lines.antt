-- One line that is answered, or at which answering broke off.
use Rattle.std.proofs.Common.{◌≡◌, inl, inr, ℕ, ◌*◌, ◌≤◌, List, [], ◌∷◌, None, Result, Ok, Err, OnOk, IfErr, length, map, refl, ap, subst, arith}
use Rattle.std.specs.Prelude.{⊤}
use Rattle.std.proofs.lemmas.List.{length-map}
use Rattle.std.proofs.lemmas.List.Elements.{All-nil}
use Rattle.wire_records.specs.Commands.{Command, Place}
use Rattle.wire_records.specs.declared.version.Version.{Version}
use Rattle.market_rules.specs.Market.{Market}
use Rattle.curve_ladder.specs.Segments.{segments_of, request_of}
use Rattle.curve_ladder.proofs.SegmentLemmas.{segments_count}
use Rattle.order_text.specs.Lines.{IsBlank, Asked, OfLadder, commands_of, LineAsks, SaysNothing}
use Rattle.order_text.proofs.Sizes.{no_more_than_bytes}
use Rattle.disk_edge.specs.Disks.{DiskState, IsDisk}
use Rattle.journal_keeping.specs.declared.fault.ServeFault.{ServeFault}
use Rattle.journal_keeping.specs.declared.fault.ServeFault.TheVariants.{Write, Memory}
use Rattle.journal_keeping.proofs.Stopping.{stops_after}
use Rattle.journal_keeping.proofs.Turns.{added_none}
use Rattle.input_lines.specs.Long.{IsLong}
use Rattle.line_keeping.specs.Answers.{most_entries, HasNoAnswer, IsNoCommand, AsksIn, no_command_text}
use Rattle.journal_keeping.specs.Outputs.{Output, Gains}
use Rattle.line_keeping.specs.Private.{AnswersCommands, BreaksCommands, AnswersLine, BreaksLine}
use Rattle.journal_keeping.proofs.Gaining.{gains_none, gains_wider}
use Rattle.line_keeping.proofs.Joining.{Texts}

pub on_both : {T E : Type 0} (result : Result T E) (P Q R : Type 0) → (P → Q → R) → OnOk result P → OnOk result Q → OnOk result R
on_both (Ok value) P Q R f p q = f p q
on_both (Err fault) P Q R f p q = tt

pub if_err : {T E : Type 0} (result : Result T E) (P Q : E → Type 0) → ((fault : E) → P fault → Q fault) → IfErr result P → IfErr result Q
if_err (Ok value) P Q f p = tt
if_err (Err fault) P Q f p = f fault p

-- a line that isn't blank has bytes
pub line_some : (line : List ℕ) → ¬ IsBlank line → 1 ≤ length line
line_some [] written = absurd (written (All-nil _))
line_some (byte ∷ line) written = omega arith

-- what a line asks for, with a market's version and tickers
pub at_market : (market : Market) (version : Version) (tickers : Texts) (line : List ℕ) (asked : Asked) → version ≡ market.version → tickers ≡ market.tickers → LineAsks version tickers line asked → LineAsks market.version market.tickers line asked
at_market market version tickers line asked v t asks = subst (λ (x : Texts). LineAsks market.version x line asked) t (subst (λ (x : Version). LineAsks x tickers line asked) v asks)

pub nothing_at : (market : Market) (version : Version) (tickers : Texts) (line : List ℕ) → version ≡ market.version → tickers ≡ market.tickers → SaysNothing version tickers line → SaysNothing market.version market.tickers line
nothing_at market version tickers line v t says = subst (λ (x : Texts). SaysNothing market.version x line) t (subst (λ (x : Version). SaysNothing x tickers line) v says)

-- a ladder has at most `most_entries` orders
pub ladder_few : (version : Version) (tickers : Texts) (line : List ℕ) (commands : List Command) → LineAsks version tickers line (OfLadder commands) → length commands ≤ most_entries
ladder_few version tickers line commands asks =
    let l = asks.asks in
    omega (arith, ap length l.commands_are, length-map (map (request_of l.account l.row) (segments_of l.ladder)) (Place None), length-map (segments_of l.ladder) (request_of l.account l.row), (segments_count l.ladder l.lawful).1)

-- a ladder has no more orders than its line has bytes
pub ladder_short : (version : Version) (tickers : Texts) (line : List ℕ) (commands : List Command) → LineAsks version tickers line (OfLadder commands) → length commands ≤ length line
ladder_short version tickers line commands = no_more_than_bytes version tickers line (OfLadder commands)

module _ (number : ℕ) (line : List ℕ) (old : Market) (count from : ℕ) (disk : DiskState) (out : Output) where
  pub line_none : IsDisk disk → HasNoAnswer line → AnswersLine number line old old count count from from disk disk out out
  line_none is_disk no_answer = record {
    pairs = [];
    texts = [];
    answered = inl (no_answer, refl, refl, refl);
    added = added_none disk old from is_disk;
    counted = omega arith;
    size = omega arith;
    place = (omega arith, omega arith);
    orders = omega arith;
    gained = gains_none ⊥ out;
  }

  pub line_refused : (after : Output) → IsDisk disk → IsNoCommand old line → Gains ⊥ out after (no_command_text number ∷ []) → AnswersLine number line old old count count from from disk disk out after
  line_refused after is_disk none gained = record {
    pairs = [];
    texts = no_command_text number ∷ [];
    answered = inr (inl (none, refl, refl, refl));
    added = added_none disk old from is_disk;
    counted = omega arith;
    size = omega arith;
    place = (omega arith, omega arith);
    orders = omega arith;
    gained = gained;
  }

  pub line_asked : (asked : Asked) (new : Market) (entries to : ℕ) (later : DiskState) (after : Output) → AsksIn old line asked → length (commands_of asked) ≤ length line → AnswersCommands (commands_of asked) old new count entries from to disk later out after
      → AnswersLine number line old new count entries from to disk later out after
  line_asked asked new entries to later after asks few answers = record {
    pairs = answers.pairs;
    texts = answers.texts;
    answered = inr (inr (asked, asks, answers.answered));
    added = answers.added;
    counted = answers.counted;
    size = omega (arith, answers.size, few);
    place = answers.place;
    orders = answers.orders;
    gained = answers.gained;
  }

  -- answering its commands broke off
  pub line_broke : (asked : Asked) (later : DiskState) (after : Output) (fault : ServeFault) → AsksIn old line asked → BreaksCommands (commands_of asked) old count from disk later out after fault → BreaksLine number line old count from disk later out after fault
  line_broke asked later after fault asks b = record {
    breaks = record {
      pairs = b.pairs;
      texts = b.texts;
      market = b.market;
      begun = inr (inr (asked, b.begun.0, b.begun.1, asks, b.begun.2, b.begun.3));
      more = b.more;
      words = b.words;
      last = b.last;
      further = inr (inr (asked, b.further.0, b.further.1, asks, b.further.2, b.further.3));
      stops = b.stops;
    };
    lacks = λ is. (asks.0, asks.1.written);
  }

  -- memory ran out while it was read
  pub line_unread : IsDisk disk → ¬ IsLong line → ¬ IsBlank line → BreaksLine number line old count from disk disk out out Memory
  line_unread is_disk short written = record {
    breaks = record {
      pairs = [];
      texts = [];
      market = old;
      begun = inl (refl, refl, refl);
      more = [];
      words = [];
      last = old;
      further = inl (refl, refl, refl);
      stops = stops_after _ _ disk disk old old from from [] (added_none disk old from is_disk) out out [] (gains_none _ out);
    };
    lacks = λ is. (short, written);
  }

  -- that it is no command wasn't written
  pub line_unwritten : (after : Output) → IsDisk disk → IsNoCommand old line → Gains ⊤ out after (no_command_text number ∷ []) → BreaksLine number line old count from disk disk out after Write
  line_unwritten after is_disk none refused = record {
    breaks = record {
      pairs = [];
      texts = no_command_text number ∷ [];
      market = old;
      begun = inr (inl (none, refl, refl, refl));
      more = [];
      words = no_command_text number ∷ [];
      last = old;
      further = inr (inl (none, refl, refl, refl));
      stops = stops_after _ _ disk disk old old from from [] (added_none disk old from is_disk) out after (no_command_text number ∷ []) (gains_wider ⊤ _ out after (no_command_text number ∷ []) (λ _. refl) refused);
    };
    lacks = λ is. absurd cc;
  }
