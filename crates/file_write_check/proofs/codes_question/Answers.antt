-- `file_write_check::codes_question` meets its contract: the lent codes are those of the file.
use Rattle.std.proofs.Common.{◌∙◌, rules}
use Rattle.std.proofs.lemmas.Iterator.{YieldsList-from_slice}
use Rattle.std.proofs.lemmas.Iterator.Consumers.{YieldsList-from_copied}
use Rattle.file_check.proofs.Asked.{yields-all}
use Rattle.file_write_check.proofs.WriteCheck.{written-codes}
use Rattle.file_write_check.proofs.codes_question.Goals as goal

pub returns : goal.returns
returns c =
    let codes = c.args.profiles.codes.now in
    let asked = c.codes_question.ensures codes (yields-all (YieldsList-from_copied (YieldsList-from_slice codes (search rules)))) in
    search (rules, asked ∙ written-codes codes c.args.profiles.values.now c.args.profiles.amounts.each)
