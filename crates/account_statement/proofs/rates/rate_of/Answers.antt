use Rattle.std.proofs.Common.{ap, sym, ◌∙◌}
use Rattle.account_statement.specs.Private.{rate_in, no_fill}
use Rattle.account_statement.proofs.OwnRates.{rates_found}
use Rattle.account_statement.proofs.rates.rate_of.Goals as goal

pub returns : goal.returns
returns c = c.rate_at.ensures ∙ sym (rates_found c.args.view.now.clearing.fills c.requires.ascending c.place_of.result no_fill c.place_of.ensures.within) ∙ ap (rate_in c.args.view.now.clearing.fills) c.place_of.ensures.found
