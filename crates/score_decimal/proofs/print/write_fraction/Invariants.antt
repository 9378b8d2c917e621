use Rattle.std.proofs.Common.{◌≡◌, ◌≤◌, ◌<◌, ◌-◌, ◌/◌, ◌^◌, ◌++◌, take, length}
use Rattle.score_decimal.specs.Printed.{digits_in}
use Rattle.score_decimal.proofs.print.write_fraction.Given as goal

abbrev pub invariant-digits : goal.invariant-digits
invariant-digits l =
    record {
      within : (2 ≤ l.at) × (l.at ≤ 32);
      room : length l.room ≡ 32;
      small : l.rest < 10 ^ (32 - l.at);
      weight : l.weight ≡ 10 ^ (32 - l.at) / 10;
      text : take l.at l.room ++ digits_in (32 - l.at) l.rest ≡ take 2 l.fn.room ++ digits_in 30 l.fn.units;
    }

abbrev pub decreases-digits : goal.decreases-digits
decreases-digits l = 32 - l.at
