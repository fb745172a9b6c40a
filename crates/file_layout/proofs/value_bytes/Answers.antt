-- `file_layout::value_bytes` meets its contract: a file with a profile's bytes has a header.
use Rattle.file_layout.proofs.Header.{profile_behind_header}
use Rattle.file_layout.proofs.value_bytes.Goals as goal

pub layout_of-layout-requires : goal.layout_of-layout-requires
layout_of-layout-requires c = profile_behind_header _ _ c.requires
