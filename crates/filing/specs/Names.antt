-- A name as a literal over items.
use Rattle.std.specs.Prelude.{◌≡◌, not, List, map}
use Rattle.job.specs.declared.Literal.{Literal}
use Rattle.job.specs.Literals.{Clause, valued}
use Rattle.filing.specs.declared.names.Name.{Name}

abbrev pub literal : Name → Literal
literal n = valued (not n.negated) n.item

abbrev pub clause : List Name → Clause
clause names = map literal names

abbrev pub IsNameOf : Literal → Name → Type 0
IsNameOf l n = literal n ≡ l
