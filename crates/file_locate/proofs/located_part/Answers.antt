-- `file_locate::located_part` meets its contract: a file with the found profile has a header.
use Rattle.file_layout.proofs.Header.{profile_behind_header}
use Rattle.file_locate.proofs.located_part.Goals as goal

pub layout_of-layout-requires : goal.layout_of-layout-requires
layout_of-layout-requires c = profile_behind_header _ _ c.in-Ok.ensures.inside
