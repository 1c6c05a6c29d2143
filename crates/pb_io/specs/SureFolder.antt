-- What a folder that never fails holds, and what of its open file is left.
use Rattle.std.specs.Prelude.{ℕ, List}
use Rattle.pb_io.specs.Files.{File}
use Rattle.pb_io.specs.Shelf.{shelf_files, shelf_left}
use Rattle.pb_io.specs.declared.sure_folder.SureFolder.{SureFolder}

abbrev pub sure_files : SureFolder → List File
sure_files folder = shelf_files folder.shelf

abbrev pub sure_left : SureFolder → List ℕ
sure_left folder = shelf_left folder.shelf
