mod Conclusions
mod Policing
