-- a made file is read as its world
use Rattle.byte_ends.specs.Text.{lines}
use Rattle.load_maker.specs.Made.{made}
use Rattle.script_laws.proofs.Whole.{file_read}
use Rattle.load_laws.specs.Worlds.{made_world}
use Rattle.load_laws.specs.Laws.{MadeIsRead}
use Rattle.load_laws.proofs.Files.{made_file}

pub made_read : MadeIsRead
made_read seed nodes size a b c d first = file_read first (lines (made seed nodes size)) (made_world seed nodes size) (made_file seed nodes size a b c d)
