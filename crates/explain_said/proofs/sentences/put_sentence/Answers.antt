-- `explain_said::sentences::put_sentence` meets its contract.
use mathlib.Core.Path.{refl}
use Rattle.listing.specs.Bytes.{bytes_of}
use Rattle.explain_said.specs.Sentences.{sentences}
use Rattle.explain_said.proofs.Numbered.{said, none_said}
use Rattle.explain_said.proofs.sentences.put_sentence.Goals as goal

pub returns-in-1 : goal.returns-in-1
unfolding sentences bytes_of
returns-in-1 c = said _ 1 c.in-1.is refl refl c.put_text.ensures.0

pub returns-in-2 : goal.returns-in-2
unfolding sentences bytes_of
returns-in-2 c = said _ 2 c.in-2.is refl refl c.put_text-in-2.ensures.0

pub returns-in-3 : goal.returns-in-3
unfolding sentences bytes_of
returns-in-3 c = said _ 3 c.in-3.is refl refl c.put_text-in-3.ensures.0

pub returns-in-4 : goal.returns-in-4
unfolding sentences bytes_of
returns-in-4 c = said _ 4 c.in-4.is refl refl c.put_text-in-4.ensures.0

pub returns-in-5 : goal.returns-in-5
unfolding sentences bytes_of
returns-in-5 c = said _ 5 c.in-5.is refl refl c.put_text-in-5.ensures.0

pub returns-in_default : goal.returns-in_default
returns-in_default c =
    let rest = c.in_default.in_default-own.rest in
    none_said _ _ _ rest.0.0.0.0.1 rest.0.0.0.1 rest.0.0.1 rest.0.1 rest.1
