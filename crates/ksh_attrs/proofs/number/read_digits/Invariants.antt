use Rattle.std.proofs.Common.{◌≡◌, ◌≤◌, drop}
use Rattle.std.specs.Char.{is_ascii_digit}
use Rattle.std.specs.List.{list_all}
use Rattle.ksh_base.specs.Words.{written}
use Rattle.ksh_base.proofs.Digits.{behind}
use Rattle.ksh_attrs.proofs.number.read_digits.Given as goal

-- the digits so far are one number, and those that are left are written behind it
abbrev pub invariant-loop-digit : goal.invariant-loop-digit
invariant-loop-digit l = record {
  digits : list_all is_ascii_digit l.digits ≡ list_all is_ascii_digit (drop l.digit-index l.digits);
  value : written l.digits ≡ behind l.value (drop l.digit-index l.digits);
  bound : l.value ≤ 92233720368547758089;
}
