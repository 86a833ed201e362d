use Rattle.serde_json.specs.View.{view}
use Rattle.order_text.proofs.ByWord.{no_word}
use Rattle.order_text.proofs.asking.asked_by.Goals as goal

pub returns-in-None : goal.returns-in-None
returns-in-None c = no_word c.args.tickers.now (view c.args.value.now) c.args.version c.in-None.ensures.none
