-- The lines of refusals and of a volume that was made, and what is printed of an answer.
use Rattle.std.specs.Prelude.{ℕ, List, [], ◌∷◌, ◌++◌, codes, Result, Ok, Err}
use Rattle.std.specs.Fmt.{decimal}
use Rattle.volume_format.specs.declared.fault.Formatted.{Formatted}
use Rattle.volume_run.specs.image_open.declared.refusal.Refusal.{Refusal}
use Rattle.volume_run.specs.image_open.declared.refusal.Refusal.TheVariants.{NotNtfs, Geometry, VolumeLarge, Short, BadFixup, BadRecord, MftList, MftLarge, Version, LogVersion, NoRestart, ForeignLog, LogSmall, NoJournal, BadVolume, HasJournal, Unbuilt}
use Rattle.image_dump.specs.Texts.{line}

-- the line of a refusal: its number, its name and its values
unfoldable pub refusal_line : Refusal → List ℕ
refusal_line (NotNtfs rule) = codes "refused 1 NotNtfs " ++ decimal rule ++ 10 ∷ []
refusal_line (Geometry offset value) = codes "refused 2 Geometry " ++ (decimal offset ++ (32 ∷ (decimal value ++ 10 ∷ [])))
refusal_line (VolumeLarge clusters) = codes "refused 3 VolumeLarge " ++ decimal clusters ++ 10 ∷ []
refusal_line (Short sectors device) = codes "refused 4 Short " ++ (decimal sectors ++ (32 ∷ (decimal device ++ 10 ∷ [])))
refusal_line (BadFixup number) = codes "refused 5 BadFixup " ++ decimal number ++ 10 ∷ []
refusal_line (BadRecord number rule) = codes "refused 6 BadRecord " ++ (decimal number ++ (32 ∷ (decimal rule ++ 10 ∷ [])))
refusal_line MftList = codes "refused 7 MftList\n"
refusal_line (MftLarge records) = codes "refused 8 MftLarge " ++ decimal records ++ 10 ∷ []
refusal_line (Version major minor) = codes "refused 9 Version " ++ (decimal major ++ (32 ∷ (decimal minor ++ 10 ∷ [])))
refusal_line (LogVersion major minor) = codes "refused 10 LogVersion " ++ (decimal major ++ (32 ∷ (decimal minor ++ 10 ∷ [])))
refusal_line NoRestart = codes "refused 11 NoRestart\n"
refusal_line (ForeignLog lsn) = codes "refused 12 ForeignLog " ++ decimal lsn ++ 10 ∷ []
refusal_line (LogSmall pages needed) = codes "refused 13 LogSmall " ++ (decimal pages ++ (32 ∷ (decimal needed ++ 10 ∷ [])))
refusal_line (NoJournal why) = codes "refused 14 NoJournal " ++ decimal why ++ 10 ∷ []
refusal_line (BadVolume rule number) = codes "refused 15 BadVolume " ++ (decimal rule ++ (32 ∷ (decimal number ++ 10 ∷ [])))
refusal_line HasJournal = codes "refused 16 HasJournal\n"
refusal_line (Unbuilt rule) = codes "refused 17 Unbuilt " ++ decimal rule ++ 10 ∷ []

-- formatted CLUSTERS ROOM
unfoldable pub formatted_line : Formatted → List ℕ
formatted_line f = line (codes "formatted") (decimal f.clusters ∷ decimal f.room ∷ [])

-- what is printed of an answer: its text, or the line of the refusal
abbrev pub printed : Result (List ℕ) Refusal → List ℕ
printed (Ok text) = text
printed (Err refusal) = refusal_line refusal
