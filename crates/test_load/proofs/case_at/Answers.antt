use borrow.Author.Rules.{rules}
use Rattle.test_load.proofs.case_at.Goals as goal

pub returns : goal.returns
returns c =
    record {
      name_is = search rules;
      begins = search rules;
      ends = cc;
      ordered = search rules;
      within = search rules;
      number_is_lem = search rules;
      place_is_lem = cc;
      next_is = search rules;
    }
