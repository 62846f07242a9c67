-- Scaffolding: a page as its fields stand in the program, and back.
use Rattle.clock_page.specs.Page.{PageFields}
use Rattle.clock_page.specs.declared.page.Page.TheInside.{Inside}

abbrev pub said_by : Inside → PageFields
said_by p = record {
  length = p.length;
  sync = p.sync;
  stratum = p.stratum;
  refid = p.refid;
  offset = p.offset;
  anchor = p.anchor;
  until = p.until;
  root_delay = p.root_delay;
  root_disp = p.root_disp;
  reftime = p.reftime;
  leap_at = p.leap_at;
  rate = p.rate;
}

abbrev pub inside_of : PageFields → Inside
inside_of p = record {
  length = p.length;
  sync = p.sync;
  stratum = p.stratum;
  refid = p.refid;
  offset = p.offset;
  anchor = p.anchor;
  until = p.until;
  root_delay = p.root_delay;
  root_disp = p.root_disp;
  reftime = p.reftime;
  leap_at = p.leap_at;
  rate = p.rate;
}
