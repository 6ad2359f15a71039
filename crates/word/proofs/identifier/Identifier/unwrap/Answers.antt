use Rattle.word.proofs.identifier.Identifier.unwrap.Goals as goal

pub returns : goal.returns
returns c = cc
