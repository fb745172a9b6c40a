-- `Profiles::file_length` meets its contract: a written file has the bytes of its header and of its profiles.
use Rattle.std.proofs.Common.{sym}
use Rattle.file_written.proofs.Written.{length-written}
use Rattle.file_write_check.proofs.profiles.Profiles.file_length.Goals as goal

pub returns : goal.returns
returns c = sym (length-written _ _ c.args.self.amounts.each)
