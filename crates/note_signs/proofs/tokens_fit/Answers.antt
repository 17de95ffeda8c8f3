use Rattle.note_signs.proofs.Notes.{heard_fit, notes_are_lexed, notes_fit}
use Rattle.note_signs.proofs.tokens_fit.Goals as goal

pub returns-clause-noted : goal.returns-clause-noted
returns-clause-noted c = notes_fit c.spells.ensures

pub returns-clause-heard : goal.returns-clause-heard
returns-clause-heard c = heard_fit c.spells.ensures

pub returns-clause-lexed : goal.returns-clause-lexed
returns-clause-lexed c = notes_are_lexed c.spells.ensures
