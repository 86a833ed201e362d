-- What a contract sees of a curve.
use Rattle.demand_curve.specs.declared.Curve.{Curve}
use Rattle.demand_curve.specs.Demand.{Terms}

-- the terms of a curve
abbrev pub terms : Curve → Terms
terms curve = record { low = curve.low; high = curve.high; rate = curve.rate; room = curve.room }
