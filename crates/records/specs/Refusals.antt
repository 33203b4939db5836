-- The numbers of the refusals.
use Rattle.std.specs.Prelude.{ℕ}
use Rattle.records.specs.declared.fault.Refusal.{Refusal}
use Rattle.records.specs.declared.fault.Refusal.TheVariants.{NoRange, TooManyRanges, BadRange, OverlappingRanges, BadGrid, MinDocCountWithExtendedBounds, ExtendedBoundsOutsideHard, UnknownColumn, WrongTicket, UnknownDocument, TooManyRows, AllowanceExceeded, TargetTooShort, SheetDoesNotRise, KindsDiffer, CountOverflow, NoSuchFamily}

abbrev pub refusal_number : Refusal → ℕ
refusal_number NoRange = 1
refusal_number TooManyRanges = 2
refusal_number BadRange = 3
refusal_number OverlappingRanges = 4
refusal_number BadGrid = 5
refusal_number MinDocCountWithExtendedBounds = 6
refusal_number ExtendedBoundsOutsideHard = 7
refusal_number UnknownColumn = 8
refusal_number WrongTicket = 9
refusal_number UnknownDocument = 10
refusal_number TooManyRows = 11
refusal_number AllowanceExceeded = 12
refusal_number TargetTooShort = 13
refusal_number SheetDoesNotRise = 14
refusal_number KindsDiffer = 15
refusal_number CountOverflow = 16
refusal_number NoSuchFamily = 17
