use Rattle.session_resume.proofs.first.first_part.Goals as goal

pub journal_part-requires : goal.journal_part-requires
journal_part-requires c = record { begins = (c.journal_version.ensures.exact c.in-Some.version).0 c.in-Some.is }
