-- A run opens at the magic of a version.
use Rattle.std.proofs.Common.{◌≡◌, ℕ, List, drop, sym, ap, subst, ◌∙◌, arith}
use Rattle.std.proofs.lemmas.List.{drop_at}
use Rattle.wire_records.specs.Grammars.{BeginsWith}
use Rattle.wire_records.specs.declared.version.Version.{Version}
use Rattle.wire_records.specs.Formats.{command_magic_of, commands}
use Rattle.wire_records.proofs.RecordCode.{eight}
use Rattle.journal_records.specs.Formats.{journal_magic_of}
use Rattle.market_rules.specs.Market.{Market, empty_market}
use Rattle.word_driver.specs.Private.{OpensAt}
use Rattle.exchange_session.specs.Serving.{HasNumbers}
use Rattle.exchange_session.specs.Running.{run}

-- a run that has opened is at the empty market of the version, and has written the magic of a journal of the version
pub opens_at : (version : Version) (bytes body : List ℕ) (market : Market) (text : List ℕ) → BeginsWith commands.magics bytes version body → market ≡ empty_market version → text ≡ journal_magic_of version
    → OpensAt run empty_market bytes market (HasNumbers market) text
opens_at version bytes body market text begins is opening =
    let following : body ≡ drop 8 bytes = sym (drop_at (command_magic_of version) body 8 (eight version)) ∙ ap (drop 8) (sym begins.1) in
    record {
      version = version;
      magic = subst (BeginsWith commands.magics bytes version) following begins;
      starts = is;
      opening = opening;
      ready = λ limit few. let first : market.next_order ≡ 1 = ap (λ (m : Market). m.next_order) is in omega (arith, few, first);
    }
