-- Calls that check a text may refuse what those do that do not.
use Rattle.std.specs.Prelude.{ℕ, List}
use Rattle.regress_engine_input.specs.Views.{utf8}
use Rattle.regress_programs.specs.declared.slots.Anchored.{Anchored}
use Rattle.regress_call_errors.specs.declared.call_error.CallError.{CallError}
use Rattle.regress_call_errors.specs.declared.call_error.CallError.TheVariants.{OutOfMemory, WrongHandle, Null, NotUtf8, BadStart, NoRoom, Syntax, TooDeep, TooManyGroups, TooManyLoops, TooLarge, UnknownFlag, RepeatedFlag, BothUnicodeFlags, NoGroup, BrokenTables, SameHandle, PastLimit, TooManySteps}
use Rattle.regress_calls.specs.Handles.{Content}
use Rattle.regress_calls.specs.Refusals.{MayRefuseCopy, MayRefuseCopyOf, MayRefuseCounted, MayRefuseMany, MayRefuseSearch}
use Rattle.regress_c.specs.Checked.{MayRefuseChecked, MayRefuseCheckedMany}
use Rattle.regress_c.specs.Copied.{MayRefuseCheckedCopy, MayRefuseCheckedCopyOf, MayRefuseChecked as MayRefuseCheckedPattern}

-- a search
pub checked-search : (c : Content) (anchored : Anchored) (bytes : List ℕ) (start : ℕ) (x : CallError) → MayRefuseSearch c anchored utf8 bytes start x
    → MayRefuseChecked c anchored bytes start x
checked-search c anchored bytes start OutOfMemory h = h
checked-search c anchored bytes start WrongHandle h = h
checked-search c anchored bytes start Null h = h
checked-search c anchored bytes start NotUtf8 h = absurd h
checked-search c anchored bytes start BadStart h = h
checked-search c anchored bytes start NoRoom h = h
checked-search c anchored bytes start Syntax h = h
checked-search c anchored bytes start TooDeep h = h
checked-search c anchored bytes start TooManyGroups h = h
checked-search c anchored bytes start TooManyLoops h = h
checked-search c anchored bytes start TooLarge h = h
checked-search c anchored bytes start UnknownFlag h = h
checked-search c anchored bytes start RepeatedFlag h = h
checked-search c anchored bytes start BothUnicodeFlags h = h
checked-search c anchored bytes start NoGroup h = h
checked-search c anchored bytes start BrokenTables h = h
checked-search c anchored bytes start SameHandle h = h
checked-search c anchored bytes start PastLimit h = h
checked-search c anchored bytes start TooManySteps h = h

-- one for many matches
pub checked-many : (c : Content) (bytes : List ℕ) (start next room width : ℕ) (x : CallError) → MayRefuseMany c utf8 bytes start next room width x
    → MayRefuseCheckedMany c bytes start next room width x
checked-many c bytes start next room width OutOfMemory h = h
checked-many c bytes start next room width WrongHandle h = h
checked-many c bytes start next room width Null h = h
checked-many c bytes start next room width NotUtf8 h = absurd h
checked-many c bytes start next room width BadStart h = h
checked-many c bytes start next room width NoRoom h = h
checked-many c bytes start next room width Syntax h = h
checked-many c bytes start next room width TooDeep h = h
checked-many c bytes start next room width TooManyGroups h = h
checked-many c bytes start next room width TooManyLoops h = h
checked-many c bytes start next room width TooLarge h = h
checked-many c bytes start next room width UnknownFlag h = h
checked-many c bytes start next room width RepeatedFlag h = h
checked-many c bytes start next room width BothUnicodeFlags h = h
checked-many c bytes start next room width NoGroup h = h
checked-many c bytes start next room width BrokenTables h = h
checked-many c bytes start next room width SameHandle h = h
checked-many c bytes start next room width PastLimit h = h
checked-many c bytes start next room width TooManySteps h = h

-- a call that counts groups
pub checked-counted : (c : Content) (bytes : List ℕ) (x : CallError) → MayRefuseCounted c x → MayRefuseCheckedPattern c bytes x
checked-counted c bytes OutOfMemory h = h
checked-counted c bytes WrongHandle h = h
checked-counted c bytes Null h = h
checked-counted c bytes NotUtf8 h = absurd h
checked-counted c bytes BadStart h = h
checked-counted c bytes NoRoom h = h
checked-counted c bytes Syntax h = h
checked-counted c bytes TooDeep h = h
checked-counted c bytes TooManyGroups h = h
checked-counted c bytes TooManyLoops h = h
checked-counted c bytes TooLarge h = h
checked-counted c bytes UnknownFlag h = h
checked-counted c bytes RepeatedFlag h = h
checked-counted c bytes BothUnicodeFlags h = h
checked-counted c bytes NoGroup h = h
checked-counted c bytes BrokenTables h = h
checked-counted c bytes SameHandle h = h
checked-counted c bytes PastLimit h = h
checked-counted c bytes TooManySteps h = h

-- a copy
pub checked-copy : (bytes : List ℕ) (x : CallError) → MayRefuseCopy x → MayRefuseCheckedCopy bytes x
checked-copy bytes OutOfMemory h = h
checked-copy bytes WrongHandle h = h
checked-copy bytes Null h = h
checked-copy bytes NotUtf8 h = absurd h
checked-copy bytes BadStart h = h
checked-copy bytes NoRoom h = h
checked-copy bytes Syntax h = h
checked-copy bytes TooDeep h = h
checked-copy bytes TooManyGroups h = h
checked-copy bytes TooManyLoops h = h
checked-copy bytes TooLarge h = h
checked-copy bytes UnknownFlag h = h
checked-copy bytes RepeatedFlag h = h
checked-copy bytes BothUnicodeFlags h = h
checked-copy bytes NoGroup h = h
checked-copy bytes BrokenTables h = h
checked-copy bytes SameHandle h = h
checked-copy bytes PastLimit h = h
checked-copy bytes TooManySteps h = h

-- a copy of what a pattern makes
pub checked-copy_of : (c : Content) (text replacement : List ℕ) (x : CallError) → MayRefuseCopyOf c x → MayRefuseCheckedCopyOf c text replacement x
checked-copy_of c text replacement OutOfMemory h = h
checked-copy_of c text replacement WrongHandle h = h
checked-copy_of c text replacement Null h = h
checked-copy_of c text replacement NotUtf8 h = absurd h
checked-copy_of c text replacement BadStart h = h
checked-copy_of c text replacement NoRoom h = h
checked-copy_of c text replacement Syntax h = h
checked-copy_of c text replacement TooDeep h = h
checked-copy_of c text replacement TooManyGroups h = h
checked-copy_of c text replacement TooManyLoops h = h
checked-copy_of c text replacement TooLarge h = h
checked-copy_of c text replacement UnknownFlag h = h
checked-copy_of c text replacement RepeatedFlag h = h
checked-copy_of c text replacement BothUnicodeFlags h = h
checked-copy_of c text replacement NoGroup h = h
checked-copy_of c text replacement BrokenTables h = h
checked-copy_of c text replacement SameHandle h = h
checked-copy_of c text replacement PastLimit h = h
checked-copy_of c text replacement TooManySteps h = h
