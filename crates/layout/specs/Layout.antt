-- The layout of our board: docs/LAYOUT.md.
use Rattle.walk.specs.Calls.{Layout}
use Rattle.table.specs.Question6.{read_table}
use Rattle.machine.specs.ReadMachine.{read_machine}

abbrev pub layout : Layout
layout = record { read_table = read_table; read_machine = read_machine }
