use Rattle.std.proofs.Common.{ap, sym}
use Rattle.std.specs.Fmt.{digits}
use Rattle.http_wire.specs.Response.{status_line}
use Rattle.http_wire.proofs.response.status_line.Goals as goal

pub returns-in-200-clause-line : goal.returns-in-200-clause-line
unfolding digits
returns-in-200-clause-line c = ap status_line (sym c.in-200.is)

pub returns-in-400-clause-line : goal.returns-in-400-clause-line
unfolding digits
returns-in-400-clause-line c = ap status_line (sym c.in-400.is)

pub returns-in-401-clause-line : goal.returns-in-401-clause-line
unfolding digits
returns-in-401-clause-line c = ap status_line (sym c.in-401.is)

pub returns-in-404-clause-line : goal.returns-in-404-clause-line
unfolding digits
returns-in-404-clause-line c = ap status_line (sym c.in-404.is)

pub returns-in-405-clause-line : goal.returns-in-405-clause-line
unfolding digits
returns-in-405-clause-line c = ap status_line (sym c.in-405.is)

pub returns-in-411-clause-line : goal.returns-in-411-clause-line
unfolding digits
returns-in-411-clause-line c = ap status_line (sym c.in-411.is)

pub returns-in-413-clause-line : goal.returns-in-413-clause-line
unfolding digits
returns-in-413-clause-line c = ap status_line (sym c.in-413.is)

pub returns-in-415-clause-line : goal.returns-in-415-clause-line
unfolding digits
returns-in-415-clause-line c = ap status_line (sym c.in-415.is)

pub returns-in-431-clause-line : goal.returns-in-431-clause-line
unfolding digits
returns-in-431-clause-line c = ap status_line (sym c.in-431.is)

pub returns-in-501-clause-line : goal.returns-in-501-clause-line
unfolding digits
returns-in-501-clause-line c = ap status_line (sym c.in-501.is)

pub returns-in-503-clause-line : goal.returns-in-503-clause-line
unfolding digits
returns-in-503-clause-line c = ap status_line (sym c.in-503.is)
