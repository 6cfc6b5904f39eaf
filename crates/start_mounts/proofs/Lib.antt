mod Agreeing
mod Mounting
