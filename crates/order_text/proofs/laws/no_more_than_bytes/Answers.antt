use Rattle.order_text.proofs.Sizes.{no_more_than_bytes}
use Rattle.order_text.proofs.laws.no_more_than_bytes.Goals as goal

pub returns : goal.returns
returns c = no_more_than_bytes
