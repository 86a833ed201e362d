-- What an object asks for, by the word at `do`.
use Rattle.std.proofs.Common.{◌≡◌, ℕ, List, [], Option, Some, None, Ok, Err, refl, sym, ap, ◌∙◌, arith}
use Rattle.std.specs.Prelude.{codes, unwrap_or}
use Rattle.serde_json.specs.Data.{Data}
use Rattle.wire_records.specs.Commands.{Command, AddAsset, OpenAccount, Deposit, Withdraw, Place, CancelOrder, RunBatch, SetCredit}
use Rattle.wire_records.specs.declared.command.Command as owned
use Rattle.wire_records.specs.Versions.{HasCredit}
use Rattle.wire_records.specs.Views.{command_in}
use Rattle.wire_records.specs.declared.version.Version.{Version}
use Rattle.wire_records.specs.declared.version.Version.TheVariants.{One, Two}
use Rattle.order_text.specs.declared.line.LineRead.TheVariants as line_is
use Rattle.order_text.specs.declared.line.LineFault.{LineFault}
use Rattle.order_text.specs.declared.line.LineFault.TheVariants.{NoCommand, Memory}
use Rattle.order_text.specs.declared.word.Word.{Word}
use Rattle.order_text.specs.declared.word.Word.TheVariants as words
use Rattle.order_text.specs.Lines.{Asked, Alone, OfLadder, ObjectAsks}
use Rattle.order_text.specs.Private.{text_at, word_of, encoded, IsWord, FindsCommand, IsPlaced, AnswersObject, alone}
use Rattle.order_text.proofs.AskedFor.{of_each, of_later, gives_credit, word_asked, fits_asked, asks_of, one_word}
use Rattle.order_text.proofs.Ladders.{ladder_asked, no_command_word}

-- the word of a command
word_for : (command : Command) → (word : Word) × (word_of command ≡ encoded word)
word_for (AddAsset ticker) = (words.Asset, refl)
word_for OpenAccount = (words.Account, refl)
word_for (Deposit account kind count) = (words.Deposit, refl)
word_for (Withdraw account kind count) = (words.Withdraw, refl)
word_for (Place last request) = (words.Place, refl)
word_for (CancelOrder account order) = (words.Cancel, refl)
word_for (RunBatch budget) = (words.Batch, refl)
word_for (SetCredit account kind count) = (words.Credit, refl)

module _ (tickers : List (List ℕ)) (d : Data) where
  -- an object without a word asks for nothing
  pub no_word : (version : Version) → ((word : Word) → ¬ IsWord word d) → (asked : Asked) → ObjectAsks version tickers d asked → ⊥
  no_word version none (Alone command) asks = let own = word_for command in none own.0 (word_asked version tickers d command asks ∙ ap Some own.1)
  no_word version none (OfLadder commands) asks = none words.Ladder (ladder_asked tickers d commands asks)

  -- an object with another word than `ladder` asks for nothing if it asks for no command
  no_ladder : (version : Version) (text : List ℕ) → text_at (codes "do") d ≡ Some text → (text ≡ codes "ladder" → ⊥) → ((command : Command) → ObjectAsks version tickers d (Alone command) → ⊥) → (asked : Asked) → ObjectAsks version tickers d asked → ⊥
  no_ladder version text is other none (Alone command) asks = none command asks
  no_ladder version text is other none (OfLadder commands) asks = other (ap (λ o. unwrap_or o []) (sym is ∙ ladder_asked tickers d commands asks))

  -- what is found by a word is what is asked for
  pub found_asked : (version : Version) (text : List ℕ) (found : Option owned.Command) → text_at (codes "do") d ≡ Some text → (text ≡ codes "ladder" → ⊥) → FindsCommand text One tickers d found → AnswersObject version tickers d (alone found)
  found_asked version text (Some command) is other found = (asks_of version tickers d (command_in command) (is ∙ ap Some (sym found.0)) found.1 (of_each version (command_in command) found.2), found.3)
  found_asked version text None is other found = no_ladder version text is other (λ command asks. found command (one_word tickers d version text command is asks) (fits_asked version tickers d command asks))

  -- what is found by the word `credit` is what is asked for in a version that has credit
  pub credit_asked : (version : Version) (found : Option owned.Command) → HasCredit version → IsWord words.Credit d → FindsCommand (codes "credit") Two tickers d found → AnswersObject version tickers d (alone found)
  credit_asked version (Some command) has is found = (
    asks_of version tickers d (command_in command) (is ∙ ap Some (sym found.0)) found.1 (of_later version (command_in command) (omega (arith, has)) found.2),
    found.3,
  )
  credit_asked version None has is found = no_ladder version (codes "credit") is (no_command_word tickers d (SetCredit 0 None 0)) (λ command asks. found command (one_word tickers d version (codes "credit") command is asks) (fits_asked version tickers d command asks))

  -- an object with the word `credit` asks for nothing in a version without credit
  pub no_credit_asked : (version : Version) → (¬ HasCredit version) → IsWord words.Credit d → (asked : Asked) → ObjectAsks version tickers d asked → ⊥
  no_credit_asked version has_none is = no_ladder version (codes "credit") is (no_command_word tickers d (SetCredit 0 None 0)) (λ command asks. has_none (gives_credit version command (one_word tickers d version (codes "credit") command is asks) asks.1))

  -- an order that is placed is what is asked for
  pub placed_asked : (version : Version) (command : owned.Command) → IsWord words.Place d → IsPlaced version tickers d (Ok command) → AnswersObject version tickers d (Ok (line_is.Asks command))
  placed_asked version command is placed = (asks_of version tickers d (command_in command) (is ∙ ap Some (sym placed.0)) placed.1 placed.2, placed.3)

  pub place_refused : (version : Version) (fault : LineFault) → IsWord words.Place d → IsPlaced version tickers d (Err fault) → AnswersObject version tickers d (Err fault)
  place_refused version NoCommand is none = no_ladder version (codes "place") is (λ same. absurd cc) (λ command asks. none command (one_word tickers d version (codes "place") command is asks) asks.1 (fits_asked version tickers d command asks))
  place_refused version Memory is none = tt
