use Rattle.std.proofs.Common.{drop, length}
use Rattle.std.proofs.lemmas.Bool.Decides.{Decides-eqb}
use Rattle.std.proofs.lemmas.Slice.Eq.{starts_is}
use Rattle.market_snapshot.specs.Checkpoints.{checkpoint_magic}
use Rattle.encode_word.proofs.start.is_cut.Goals as goal

pub returns : goal.returns
returns c =
    let tells = starts_is Decides-eqb checkpoint_magic c.args.bytes.now c.starts_with.result c.starts_with.ensures.value in
    (λ yes. (c.if-not-more.false, c.if-bytes-ge8.false, (drop (length c.args.bytes.now) checkpoint_magic, tells.0 yes)), λ cut. tells.1 cut.2.0 cut.2.1)
