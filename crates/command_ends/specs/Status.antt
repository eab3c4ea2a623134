use Rattle.std.specs.Prelude.{ℕ}
use Rattle.command_ends.specs.declared.status.Status.{Status}
use Rattle.command_ends.specs.declared.status.Status.TheVariants.{Done, BadWords, BadFile, ReadFault, WriteFault, NoMemory, Illegal, TooLong}

-- the exit status of the program
abbrev pub exit_number : Status → ℕ
exit_number Done = 0
exit_number BadWords = 2
exit_number BadFile = 3
exit_number ReadFault = 4
exit_number WriteFault = 5
exit_number NoMemory = 6
exit_number Illegal = 7
exit_number TooLong = 8
