-- `text_page_lines::put_last_line` meets its contract: the parts, put one behind the other, are the line.
use Rattle.std.proofs.Common.{arith}
use Rattle.text.proofs.Puts.{behind}
use Rattle.text_page_lines.specs.PageLines.{page_line}
use Rattle.text_page_lines.proofs.PageLines.{last-line-length}
use Rattle.text_page_lines.proofs.put_last_line.Goals as goal

pub returns : goal.returns
unfolding page_line
returns c =
    let long = last-line-length c.args.t c.requires.count_bound c.requires.total_bound in
    behind c.put_word.ensures
    (behind c.put_spaces.ensures (behind c.put_byte.ensures (behind c.put_word-2.ensures (λ _. c.put_amounts.ensures.put))))
    (omega arith)
