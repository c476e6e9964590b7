-- An export's contract is that of panel's entry of the same name: what is proved of the entry's contract holds of the export. `Post` is the contract itself.
-- Assumes nothing.
use mathlib.Core.Path.{◌≡◌, refl}
use Rattle.panel.proofs.bushkalote_analyse.Reads.{Post as entry-analyse}
use Rattle.panel.proofs.bushkalote_read_sheet.Reads.{Post as entry-read-sheet}
use Rattle.panel.proofs.bushkalote_list_pairs.Reads.{Post as entry-list-pairs}
use Rattle.panel.proofs.bushkalote_write_sheet.Reads.{Post as entry-write-sheet}
use Rattle.panel.proofs.bushkalote_analyse_rows.Reads.{Post as entry-analyse-rows}
use Rattle.panel.proofs.bushkalote_read_rows.Reads.{Post as entry-read-rows}
use Rattle.panel.proofs.bushkalote_list_rows.Reads.{Post as entry-list-rows}
use Rattle.panel.proofs.bushkalote_write_rows.Reads.{Post as entry-write-rows}
use Rattle.panel_c.proofs.bushkalote_analyse.Reads.{Post as export-analyse}
use Rattle.panel_c.proofs.bushkalote_read_sheet.Reads.{Post as export-read-sheet}
use Rattle.panel_c.proofs.bushkalote_list_pairs.Reads.{Post as export-list-pairs}
use Rattle.panel_c.proofs.bushkalote_write_sheet.Reads.{Post as export-write-sheet}
use Rattle.panel_c.proofs.bushkalote_analyse_rows.Reads.{Post as export-analyse-rows}
use Rattle.panel_c.proofs.bushkalote_read_rows.Reads.{Post as export-read-rows}
use Rattle.panel_c.proofs.bushkalote_list_rows.Reads.{Post as export-list-rows}
use Rattle.panel_c.proofs.bushkalote_write_rows.Reads.{Post as export-write-rows}

pub analyse_same : (κs a r s : _) → export-analyse κs a r s ≡ entry-analyse κs a r s
analyse_same κs a r s = refl

pub read_sheet_same : (κs a r s : _) → export-read-sheet κs a r s ≡ entry-read-sheet κs a r s
read_sheet_same κs a r s = refl

pub list_pairs_same : (κs a r s : _) → export-list-pairs κs a r s ≡ entry-list-pairs κs a r s
list_pairs_same κs a r s = refl

pub write_sheet_same : (κs a r s : _) → export-write-sheet κs a r s ≡ entry-write-sheet κs a r s
write_sheet_same κs a r s = refl

pub analyse_rows_same : (κs a r s : _) → export-analyse-rows κs a r s ≡ entry-analyse-rows κs a r s
analyse_rows_same κs a r s = refl

pub read_rows_same : (κs a r s : _) → export-read-rows κs a r s ≡ entry-read-rows κs a r s
read_rows_same κs a r s = refl

pub list_rows_same : (κs a r s : _) → export-list-rows κs a r s ≡ entry-list-rows κs a r s
list_rows_same κs a r s = refl

pub write_rows_same : (κs a r s : _) → export-write-rows κs a r s ≡ entry-write-rows κs a r s
write_rows_same κs a r s = refl
