-- The claims of this crate, from what the writer proves of the books that it writes. Assumes nothing.
use Rattle.writer.proofs.RoundTrips.{same_book, reads_back}
use Rattle.chains.specs.Claims.{Demand3OverDays, EitherFirst, OneDay, RunsAsBefore}
use Rattle.chains.specs.Witnesses.{Stories}
use Rattle.chains.proofs.CrossingOver as crossing_over
use Rattle.chains.proofs.Demand3 as demand3
use Rattle.chains.proofs.EitherFirst as turned
use Rattle.chains.proofs.OneDay as single_day
use Rattle.chains.proofs.Witnesses as witnesses

pub demand3_over_days : Demand3OverDays
demand3_over_days = demand3.demand3_over_days reads_back

pub either_first : EitherFirst
either_first = turned.either_first demand3_over_days

pub one_day : OneDay
one_day = single_day.one_day_is

pub runs_as_before : RunsAsBefore
runs_as_before = crossing_over.runs_as_before same_book

pub stories : Stories
stories = witnesses.stories reads_back
