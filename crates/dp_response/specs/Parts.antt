-- The numbers of randomised response, as one record.
use Rattle.dp_response.specs.Response.{ReplyNumbers}
use Rattle.dp_response.specs.declared.response.Response.{Response}

-- its categories, and the two numbers of its ratio
abbrev pub numbers_of : Response → ReplyNumbers
numbers_of r = record { n = r.n; low = r.low; high = r.high }
