use Rattle.std.proofs.Common.{inl, inr, arith}
use Rattle.exchange_session.proofs.run.RunServesWord.take.Goals as goal

pub returns-in-Err-clause-halted : goal.returns-in-Err-clause-halted
returns-in-Err-clause-halted c =
    let at = c.in-Err.ensures.wanted in
    record {
      unit = at.asked;
      rest = at.rest;
      lawful = at.lawful;
      prefix = at.prefix;
      halts = elim at.allocates [ inl short ↦ absurd (omega (arith, short, c.requires.room, c.requires.none)) | inr allocates ↦ allocates ];
    }
